use Rattle.std.proofs.Common.{◌≤◌, ◌-◌, length}
use Rattle.std.specs.Prelude.{IfSome}
use Rattle.aio_disk.specs.Source.{NoneFailed, HoldsBytes}
use Rattle.aio_disk.proofs.source.read_some.Given as goal

abbrev pub invariant-loop-done : goal.invariant-loop-done
invariant-loop-done g l = record {
  within : l.done ≤ length l.bytes;
  passed : NoneFailed (g.S.ByteSource.told l.fn.source) (g.S.ByteSource.told l.source);
  bytes_held : IfSome (g.S.ByteSource.told l.fn.source)
      (λ told. HoldsBytes told.bytes l.offset l.done l.bytes);
}

abbrev pub decreases-loop-done : goal.decreases-loop-done
decreases-loop-done g l = length l.bytes - l.done
