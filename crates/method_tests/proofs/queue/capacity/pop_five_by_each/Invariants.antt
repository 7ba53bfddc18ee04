use Rattle.std.specs.List.{All}
use Rattle.method_worker.specs.QueueViews.{IsSeatOf}
use Rattle.method_tests.proofs.queue.capacity.pop_five_by_each.Given as goal

abbrev pub invariant-loop : goal.invariant-loop
invariant-loop g l = All (IsSeatOf l.queue) l.seats.items
