use Rattle.std.specs.List.{All}
use Rattle.method_worker.specs.QueueViews.{IsSeatOf}
use Rattle.method_tests.proofs.queue.capacity.push_two_by_each.Given as goal

abbrev pub invariant-loop-pair : goal.invariant-loop-pair
invariant-loop-pair g l = All (IsSeatOf l.queue) l.seats.items
