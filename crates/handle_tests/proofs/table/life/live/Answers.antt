use Rattle.std.proofs.Common.{[]}
use Rattle.aio_fixtures.proofs.UnreclaimedIos.{none-at-rest}
use Rattle.handle_tests.proofs.table.life.live.Goals as goal

pub end_own-requires-clause-unreclaimed : goal.end_own-requires-clause-unreclaimed
end_own-requires-clause-unreclaimed g c =
    c.in-Some.ensures.submitted.unreclaimed [] (none-at-rest _ c.requires.no_owner_tokens)
