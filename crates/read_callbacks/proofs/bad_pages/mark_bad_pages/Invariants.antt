use Rattle.read_callbacks.proofs.BadPagesMarked.{IsDone}
use Rattle.read_callbacks.proofs.bad_pages.mark_bad_pages.Given as goal

abbrev pub invariant-loop-index : goal.invariant-loop-index
invariant-loop-index l =
    IsDone l.fn.mark l.fn.checksums l.fn.first l.fn.pages l.fn.marks l.index l.pages l.marks l.count
