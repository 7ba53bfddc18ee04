use Rattle.std.proofs.Common.{◌≡◌, ◌++◌}
use Rattle.generated_pages.specs.GeneratedPages.{generated_pointer_bytes}
use Rattle.generated_pages.proofs.generated.put_pointers.Given as goal

abbrev pub invariant-loop-index : goal.invariant-loop-index
invariant-loop-index l = l.out.items ≡ l.initial.out.items ++ generated_pointer_bytes l.index
