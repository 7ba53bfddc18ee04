use Rattle.aio_handle.specs.ContractViews.{IsActorOf}
use Rattle.method_worker.specs.QueueViews.{IsSeatOf}
use Rattle.method_tests.proofs.worker.sleepers.push_one_by_one.Given as goal

abbrev pub invariant-loop-handle : goal.invariant-loop-handle
invariant-loop-handle g l = IsSeatOf l.queue l.seat × IsActorOf l.table l.owner
