use Rattle.std.proofs.Common.{[], rules}
use Rattle.aio_handle.specs.EndStates.{HasNoOwnerTokens}
use Rattle.aio_fixtures.proofs.UnreclaimedIos.{none-at-rest, rests-with-none}
use Rattle.handle_tests.proofs.table.races.race.Goals as goal

pub add_actor-requires-clause-no_owner_tokens : goal.add_actor-requires-clause-no_owner_tokens
add_actor-requires-clause-no_owner_tokens g c κs within =
    let owner : HasNoOwnerTokens c.in_ok-owner.owner.known = search rules in
    rests-with-none _ (c.take_and_reclaim.ensures.unreclaimed c.if-not-take_and_reclaim.false []
    (c.in-Some.ensures.submitted.unreclaimed [] (none-at-rest _ owner)))
