use Rattle.std.proofs.Common.{◌≡◌, [], take}
use Rattle.aio_handle.specs.ContractViews.{IsActorOf, IsSameActor}
use Rattle.aio_handle.specs.Execution.{ExecutesAll}
use Rattle.aio_batch.specs.Heard.{AppendsHeard}
use Rattle.aio_batch.proofs.method.Method.batch_submitted.Given as goal

abbrev pub invariant-loop-reference : goal.invariant-loop-reference
invariant-loop-reference g l = record {
  table : IsActorOf l.table l.actor;
  same : IsSameActor l.fn.actor l.actor;
  told : g.E.Execute.told l.runner ≡ g.E.Execute.told l.fn.runner;
  relations : g.E.Execute.relations l.runner ≡ g.E.Execute.relations l.fn.runner;
  heard : AppendsHeard (g.Self.Method.heard l.fn.self) (g.Self.Method.heard l.self)
      (take l.reference-index l.references);
  stands_on : g.Self.Method.stands_on l.self ≡ g.Self.Method.stands_on l.fn.self;
  marks : ExecutesAll [] l.fn.actor.known l.actor.known (g.E.Execute.reads l.fn.runner)
      (g.E.Execute.reads l.runner) (g.E.Execute.faults l.fn.runner)
      (g.E.Execute.faults l.runner);
}
