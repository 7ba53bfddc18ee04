use Rattle.std.proofs.Common.{[]}
use Rattle.aio_fixtures.proofs.UnreclaimedIos.{rests-with-none}
use Rattle.handle_tests.proofs.table.life.end_own.Goals as goal

pub returns-then-claim_and_complete-clause-no_owner_tokens : goal.returns-then-claim_and_complete-clause-no_owner_tokens
returns-then-claim_and_complete-clause-no_owner_tokens g c done =
    rests-with-none _ (c.take_and_reclaim.ensures.unreclaimed done []
    (c.claim_and_complete.ensures.unreclaimed _ c.requires.unreclaimed))

pub take_and_reclaim-requires-clause-token :
    goal.take_and_reclaim-requires-clause-token
take_and_reclaim-requires-clause-token g c =
    (c.claim_and_complete.ensures.tokens_unchanged c.args.token).in_flight c.requires.token
