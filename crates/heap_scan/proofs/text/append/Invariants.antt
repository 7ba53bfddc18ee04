use Rattle.std.proofs.Common.{◌-◌, ◌≡◌, ◌++◌, ◌≤◌, length}
use Rattle.heap_scan.specs.PageText.{text_up_to}
use Rattle.heap_scan.proofs.text.append.Given as goal

abbrev pub invariant-loop-done : goal.invariant-loop-done
invariant-loop-done l = record {
  some : l.done ≤ l.count;
  room : length l.scratch ≡ 2144;
  appended : l.out.items
      ≡ l.fn.out.items ++ text_up_to l.relation l.block l.page l.done;
}

abbrev pub decreases-loop-done : goal.decreases-loop-done
decreases-loop-done l = l.count - l.done
