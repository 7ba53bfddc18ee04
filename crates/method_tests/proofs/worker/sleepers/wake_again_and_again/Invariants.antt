use Rattle.method_worker.specs.QueueViews.{IsSeatOf}
use Rattle.method_tests.proofs.worker.sleepers.wake_again_and_again.Given as goal

abbrev pub invariant-loop-round : goal.invariant-loop-round
invariant-loop-round g l = IsSeatOf l.queue l.sleeper × IsSeatOf l.queue l.waker
