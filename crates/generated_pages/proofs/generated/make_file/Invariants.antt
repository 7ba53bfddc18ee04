use Rattle.std.proofs.Common.{◌≡◌}
use Rattle.std.specs.Prelude.{flat_map}
use Rattle.std.specs.List.{range_with_len}
use Rattle.generated_pages.specs.GeneratedPages.{generated_page}
use Rattle.generated_pages.proofs.generated.make_file.Given as goal

abbrev pub invariant-loop-block : goal.invariant-loop-block
invariant-loop-block l = l.file.items ≡ flat_map generated_page (range_with_len 0 l.block)
