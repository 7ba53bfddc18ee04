use Rattle.method_worker.specs.QueueViews.{IsSeatOf}
use Rattle.method_tests.proofs.queue.threads.push_all.Given as goal

abbrev pub invariant-loop : goal.invariant-loop
invariant-loop g l = record {
  can_next : (goal.iterator-loop g).can_next l.iterator';
  is_finite : (goal.iterator-loop g).is_finite l.iterator';
  of : IsSeatOf l.queue l.seat;
}

abbrev pub invariant-loop-number : goal.invariant-loop-number
invariant-loop-number g l = IsSeatOf l.queue l.seat
