use Rattle.std.proofs.Common.{◌≡◌}
use Rattle.aio_handle.specs.ContractViews.{IsActorOf, IsSameActor}
use Rattle.read_stream.specs.StreamState.{IsOpenFor}
use Rattle.stream_tests.proofs.helpers.listed_streams.take_pages.Given as goal

abbrev pub invariant-loop : goal.invariant-loop
invariant-loop g l = record {
  same : IsSameActor l.fn.actor l.actor;
  of : IsActorOf l.table l.actor;
  told : (g.E.Execute.told l.runner ≡ g.W.World.told)
      × (g.E.Execute.relations l.runner ≡ g.W.World.relations);
  stands_on : g.M.Method.stands_on l.method ≡ g.M.Method.stands_on l.fn.method;
  is_open : IsOpenFor (λ r. r) g.W.World l.stream
      l.actor;
}
