use Rattle.std.proofs.Common.{◌≡◌, ◌+◌, length, vec_capacity}
use Rattle.std.specs.List.{All}
use Rattle.method_worker.specs.QueueViews.{QueueView, IsSeatOf}
use Rattle.scan_rounds.specs.Rings.{IsRingOf}
use Rattle.scan_rounds.proofs.memory.open_rings.Given as goal

abbrev pub invariant-loop : goal.invariant-loop
invariant-loop g l = record {
  so_far : length l.rings.items ≡ l.counter;
  capacity : vec_capacity l.rings ≡ l.count;
  left : length l.seats.items + l.counter ≡ length l.fn.seats.items;
  seats : (q : QueueView) → All (IsSeatOf q) l.fn.seats.items → All (IsSeatOf q) l.seats.items;
  rings : (q : QueueView) → All (IsSeatOf q) l.fn.seats.items → All (IsRingOf q) l.rings.items;
}
