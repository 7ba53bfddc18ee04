use Rattle.std.proofs.Common.{◌≤◌}
use Rattle.method_worker.specs.QueueViews.{IsSeatOf, IsSameSeat}
use Rattle.method_tests.proofs.queue.entries.push_from.Given as goal

abbrev pub invariant-loop-number : goal.invariant-loop-number
invariant-loop-number g l = record {
  of : IsSeatOf l.queue l.seat;
  same : IsSameSeat l.fn.seat l.seat;
  few : l.pushed ≤ l.number;
}
