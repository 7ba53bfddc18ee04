use Rattle.std.proofs.Common.{◌≡◌}
use Rattle.std.specs.Option.{option_map}
use Rattle.aio_disk.specs.Source.{with_failures}
use Rattle.aio_disk.proofs.source.read_part.Given as goal

abbrev pub invariant-loop : goal.invariant-loop
invariant-loop g l =
    g.S.ByteSource.told l.source
    ≡ option_map (with_failures 0 l.counter) (g.S.ByteSource.told l.fn.source)
