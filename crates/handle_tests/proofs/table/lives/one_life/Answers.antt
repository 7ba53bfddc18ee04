use Rattle.handle_tests.proofs.table.lives.one_life.Goals as goal

pub add_actor-requires-clause-no_owner_tokens : goal.add_actor-requires-clause-no_owner_tokens
add_actor-requires-clause-no_owner_tokens g c κs within = c.live_on.ensures.no_owner_tokens c.if-not-live_on.false
