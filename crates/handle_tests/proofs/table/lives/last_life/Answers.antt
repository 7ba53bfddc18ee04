use Rattle.std.proofs.Common.{sym, subst}
use Rattle.aio_handle.specs.ContractViews.{ActorView}
use Rattle.aio_handle.specs.EndStates.{HasNoOwnerTokens}
use Rattle.handle_tests.proofs.table.lives.last_life.Goals as goal

pub add_actor-requires-clause-no_owner_tokens : goal.add_actor-requires-clause-no_owner_tokens
add_actor-requires-clause-no_owner_tokens g c κs within = subst (λ (x : ActorView). HasNoOwnerTokens x.known)
    (sym c.in-Err.ensures.refused.1) (c.live.ensures.no_owner_tokens c.if-not-live.false)
