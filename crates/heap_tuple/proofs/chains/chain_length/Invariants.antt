use Rattle.std.proofs.Common.{◌≡◌, length}
use Rattle.page_check.specs.LinePointers.{line_pointer_count}
use Rattle.heap_tuple.specs.Tuples.{step_of}
use Rattle.heap_tuple.proofs.PathLengths.{Unwinds}
use Rattle.heap_tuple.proofs.chains.chain_length.Given as goal

abbrev pub invariant-loop-item : goal.invariant-loop-item
invariant-loop-item l = record {
  size : length l.lengths ≡ line_pointer_count l.page;
  unwinds : Unwinds (step_of l.page l.block) l.passed l.lengths l.path.items l.first l.chain;
}

abbrev pub decreases-loop-item : goal.decreases-loop-item
decreases-loop-item l = goal.left-loop-item l
