use Rattle.std.proofs.Common.{[]}
use Rattle.aio_fixtures.proofs.UnreclaimedIos.{none-at-rest, rests-with-none}
use Rattle.handle_tests.proofs.trace.life.Goals as goal

pub returns-then-claim_and_complete-clause-owner : goal.returns-then-claim_and_complete-clause-owner
returns-then-claim_and_complete-clause-owner g c done =
    rests-with-none _ (c.take_and_reclaim.ensures.unreclaimed done []
    (c.in-Some.ensures.submitted.unreclaimed [] (none-at-rest _ c.requires.owner)))

pub returns-then-claim_and_complete-clause-other : goal.returns-then-claim_and_complete-clause-other
returns-then-claim_and_complete-clause-other g c = c.claim_and_complete.ensures.no_owner_tokens c.requires.other

pub returns-else-claim_and_complete-clause-other : goal.returns-else-claim_and_complete-clause-other
returns-else-claim_and_complete-clause-other g c = c.claim_and_complete.ensures.no_owner_tokens c.requires.other
