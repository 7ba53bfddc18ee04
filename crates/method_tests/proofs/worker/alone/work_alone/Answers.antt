use Rattle.std.proofs.Common.{[]}
use Rattle.aio_fixtures.proofs.UnreclaimedIos.{none-at-rest, rests-with-none, taken-up-unreclaimed}
use Rattle.method_tests.proofs.worker.alone.work_alone.Goals as goal

pub returns-clause-no_owner_tokens : goal.returns-clause-no_owner_tokens
returns-clause-no_owner_tokens g c = rests-with-none _
    (taken-up-unreclaimed [] _ _ _ _ _ _ c.work.ensures.marks (none-at-rest _ c.requires.no_owner_tokens))
