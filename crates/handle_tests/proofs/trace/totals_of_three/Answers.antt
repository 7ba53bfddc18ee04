use Rattle.handle_tests.proofs.trace.totals_of_three.Goals as goal

pub life-requires-2-clause-owner : goal.life-requires-2-clause-owner
life-requires-2-clause-owner g c = c.life.ensures.owner c.if-not-life.false

pub life-requires-3-clause-owner : goal.life-requires-3-clause-owner
life-requires-3-clause-owner g c = c.life-2.ensures.owner c.if-not-life-2.false

pub add_actor-requires-clause-no_owner_tokens : goal.add_actor-requires-clause-no_owner_tokens
add_actor-requires-clause-no_owner_tokens g c κs within = c.life-3.ensures.owner c.if-not-life-3.false
