use Rattle.std.proofs.Common.{[]}
use Rattle.aio_word.specs.Tokens.{AppendsMarks}
use Rattle.aio_handle.specs.ContractViews.{IsActorOf, IsSameActor}
use Rattle.aio_waitref.proofs.waits.rest_until_done.Given as goal

abbrev pub invariant-loop : goal.invariant-loop
invariant-loop g l = record {
  can_next : (goal.iterator-loop g).can_next l.iterator';
  is_finite : (goal.iterator-loop g).is_finite l.iterator';
  table : IsActorOf l.table l.actor;
  same : IsSameActor l.fn.actor l.actor;
  grows : AppendsMarks l.fn.actor.known l.actor.known [];
}
