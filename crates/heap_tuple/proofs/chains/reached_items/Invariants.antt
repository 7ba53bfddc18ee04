use Rattle.std.proofs.Common.{◌≡◌, length}
use Rattle.page_check.specs.LinePointers.{line_pointer_count}
use Rattle.heap_tuple.specs.ChainLengths.{AreStepTargets}
use Rattle.heap_tuple.proofs.chains.reached_items.Given as goal

abbrev pub invariant-loop-index : goal.invariant-loop-index
invariant-loop-index l = record {
  size : length l.reached.items ≡ line_pointer_count l.page;
  are : AreStepTargets l.page l.block l.index l.reached.items;
}
