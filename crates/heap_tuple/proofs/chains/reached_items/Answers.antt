use Rattle.std.proofs.Common.{◌∙◌, sym, arith, length-set, true}
use Rattle.heap_tuple.proofs.LongestRoot.{reached_none, reached_more}
use Rattle.heap_tuple.proofs.chains.reached_items.Goals as goal
use Rattle.heap_tuple.proofs.chains.reached_items.Goals.{in-Some, in_default}

pub loop-index-preserved : goal.loop-index-preserved
loop-index-preserved c =
    let is = c.loop-index.invariant in
    elim c.match-step.branch [
      | in-Some w ↦ rw w.reached-is record {
        size = length-set c.loop-index.reached.items w.from-in-Some.result true ∙ is.size;
        are = reached_more c.args.page.now c.args.block c.loop-index.index w.in-Some.next _
            c.loop-index.reached.items is.are (sym w.in-Some.ensures.value) w.from-in-Some.ensures
            (omega (arith, w.in-Some.ensures.below, is.size));
      }
      | in_default w ↦ rw w.reached-is record {
        size = is.size;
        are = reached_none c.args.page.now c.args.block c.loop-index.index
            c.loop-index.reached.items is.are (sym w.in_default.ensures.value);
      }
    ]
