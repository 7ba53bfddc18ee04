use Rattle.std.proofs.Common.{◌≡◌, []}
use Rattle.aio_handle.specs.Execution.{ExecutesAll}
use Rattle.aio_handle.specs.ContractViews.{IsActorOf, IsSameActor}
use Rattle.method_worker.specs.QueueViews.{IsSeatOf, IsSameSeat}
use Rattle.method_worker.specs.WorkerSteps.{WorkerAdvanced, worker_state}
use Rattle.method_worker.proofs.worker.work.Given as goal

abbrev pub invariant-loop : goal.invariant-loop
invariant-loop g l = record {
  can_next : (goal.iterator-loop g).can_next l.iterator';
  is_finite : (goal.iterator-loop g).is_finite l.iterator';
  queue : IsSeatOf l.queue l.seat;
  seat : IsSameSeat l.fn.seat l.seat;
  table : IsActorOf l.table l.actor;
  same : IsSameActor l.fn.actor l.actor;
  told : (g.E.Execute.told l.runner ≡ g.W.World.told)
      × (g.E.Execute.relations l.runner ≡ g.W.World.relations);
  takes : ExecutesAll [] l.fn.actor.known l.actor.known (g.E.Execute.reads l.fn.runner)
      (g.E.Execute.reads l.runner)
      (g.E.Execute.faults l.fn.runner) (g.E.Execute.faults l.runner);
  works : WorkerAdvanced (worker_state l.fn.seat l.fn.actor.known)
      (worker_state l.seat l.actor.known);
}
