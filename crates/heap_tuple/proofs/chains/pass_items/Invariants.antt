use Rattle.std.proofs.Common.{◌≡◌, ◌<◌, ◌-◌, length}
use Rattle.std.specs.Prelude.{Some}
use Rattle.page_check.specs.LinePointers.{line_pointer_count}
use Rattle.heap_tuple.specs.Tuples.{step_of}
use Rattle.heap_tuple.specs.Chains.{StepsPass}
use Rattle.heap_tuple.specs.ChainLengths.{IsPath}
use Rattle.heap_tuple.proofs.chains.pass_items.Given as goal

abbrev pub invariant-loop-passed : goal.invariant-loop-passed
invariant-loop-passed l = record {
  below : l.item < line_pointer_count l.page;
  size : length l.passed ≡ line_pointer_count l.page;
  path : IsPath l.initial.passed l.passed l.path.items;
  steps : StepsPass (step_of l.page l.block) (Some l.first) l.path.items (Some l.item);
}

abbrev pub decreases-loop-passed : goal.decreases-loop-passed
decreases-loop-passed l = line_pointer_count l.page - length l.path.items
