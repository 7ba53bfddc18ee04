use Rattle.std.proofs.Common.{◌≡◌, [], take}
use Rattle.std.specs.List.{All}
use Rattle.aio_handle.specs.ContractViews.{IsActorOf, IsSameActor}
use Rattle.aio_handle.specs.Execution.{ExecutesAll}
use Rattle.aio_handle.specs.ClaimAttempt.{OwnerKnowsClaimed}
use Rattle.method_sync.proofs.method.SyncMethodMethodReadIo.batch_submitted.Given as goal

abbrev pub invariant-loop-reference : goal.invariant-loop-reference
invariant-loop-reference g l = record {
  table : IsActorOf l.table l.actor;
  same : IsSameActor l.fn.actor l.actor;
  told : g.E.Execute.told l.runner ≡ g.E.Execute.told l.fn.runner;
  relations : g.E.Execute.relations l.runner ≡ g.E.Execute.relations l.fn.runner;
  marks : ExecutesAll [] l.fn.actor.known l.actor.known (g.E.Execute.reads l.fn.runner)
      (g.E.Execute.reads l.runner) (g.E.Execute.faults l.fn.runner)
      (g.E.Execute.faults l.runner);
  claimed : All (λ t. OwnerKnowsClaimed t l.fn.actor.known l.actor.known)
      (take l.reference-index l.references);
}
