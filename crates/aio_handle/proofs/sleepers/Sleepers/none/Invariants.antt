use Rattle.std.proofs.Common.{◌≡◌, ◌≤◌, length, vec_capacity}
use Rattle.aio_handle.proofs.sleepers.Sleepers.none.Given as goal

abbrev pub invariant-loop : goal.invariant-loop
invariant-loop l = record {
  many : length l.counts.items ≡ l.counter;
  room : l.handles ≤ vec_capacity l.counts;
}
