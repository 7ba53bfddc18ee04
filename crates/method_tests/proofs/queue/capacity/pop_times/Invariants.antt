use Rattle.method_worker.specs.QueueViews.{IsSeatOf, IsSameSeat}
use Rattle.method_tests.proofs.queue.capacity.pop_times.Given as goal

abbrev pub invariant-loop : goal.invariant-loop
invariant-loop g l = record {
  of : IsSeatOf l.queue l.seat;
  same : IsSameSeat l.fn.seat l.seat;
}
