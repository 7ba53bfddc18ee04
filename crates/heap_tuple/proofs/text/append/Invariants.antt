use Rattle.std.proofs.Common.{◌-◌, ◌≡◌, ◌++◌, ◌≤◌, length}
use Rattle.heap_tuple.specs.TuplesText.{tuples_text_up_to}
use Rattle.heap_tuple.proofs.text.append.Given as goal

abbrev pub invariant-loop-done : goal.invariant-loop-done
invariant-loop-done l = record {
  some : l.done ≤ l.count;
  room : length l.scratch ≡ 1888;
  appended : l.out.items ≡ l.fn.out.items ++ tuples_text_up_to l.relation l.block l.page l.done;
}

abbrev pub decreases-loop-done : goal.decreases-loop-done
decreases-loop-done l = l.count - l.done
