use Rattle.std.proofs.Common.{◌≡◌, ◌+◌, ◌-◌, ◌*◌, ◌≤◌, length, drop}
use Rattle.heap_tuple.specs.TuplesText.{texts_from}
use Rattle.heap_tuple.proofs.lines.put_items.Given as goal

abbrev pub invariant-loop-left : goal.invariant-loop-left
invariant-loop-left l = record {
  first : l.from ≤ l.left;
  last : l.left ≤ l.to;
  room : 96 + 224 * (l.left - l.from) ≤ l.at;
  within : l.at ≤ length l.buf;
  written : drop l.at l.buf ≡ texts_from l.page l.block l.left (l.to - l.left);
}

abbrev pub decreases-loop-left : goal.decreases-loop-left
decreases-loop-left l = l.left
