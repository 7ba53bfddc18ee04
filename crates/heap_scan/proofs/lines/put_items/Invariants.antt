use Rattle.std.proofs.Common.{◌≡◌, ◌+◌, ◌-◌, ◌*◌, ◌≤◌, length, drop}
use Rattle.page_check.specs.LinePointers.{line_pointer_of}
use Rattle.heap_scan.specs.PageText.{lines_from}
use Rattle.heap_scan.proofs.lines.put_items.Given as goal

abbrev pub invariant-loop-left : goal.invariant-loop-left
invariant-loop-left l = record {
  first : l.from ≤ l.left;
  last : l.left ≤ l.to;
  room : 96 + 32 * (l.left - l.from) ≤ l.at;
  within : l.at ≤ length l.buf;
  written : drop l.at l.buf ≡ lines_from (line_pointer_of l.page) l.left (l.to - l.left);
}

abbrev pub decreases-loop-left : goal.decreases-loop-left
decreases-loop-left l = l.left
