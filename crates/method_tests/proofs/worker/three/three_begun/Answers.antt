use Rattle.std.proofs.Common.{[], ◌∷◌}
use Rattle.aio_fixtures.proofs.UnreclaimedIos.{none-at-rest, rests-with-none}
use Rattle.method_tests.proofs.worker.three.three_begun.Goals as goal

pub take_and_reclaim-requires-then-take_and_reclaim-clause-token : goal.take_and_reclaim-requires-then-take_and_reclaim-clause-token
take_and_reclaim-requires-then-take_and_reclaim-clause-token g c =
    let three = c.in-Some-submit_by_method-2.ensures.submitted.others_in_flight c.in-Some-submit_by_method.b c.in-Some-submit_by_method.ensures.submitted.token in
    c.take_and_reclaim.ensures.others_in_flight c.in-Some-submit_by_method.b three.0 three.1

pub take_and_reclaim-requires-then-take_and_reclaim-2-clause-token : goal.take_and_reclaim-requires-then-take_and_reclaim-2-clause-token
take_and_reclaim-requires-then-take_and_reclaim-2-clause-token g c =
    let a = c.in-Some.a in
    let two = c.in-Some-submit_by_method.ensures.submitted.others_in_flight a c.in-Some.ensures.submitted.token in
    let three = c.in-Some-submit_by_method-2.ensures.submitted.others_in_flight a two.1 in
    c.take_and_reclaim-then-take_and_reclaim.ensures.others_in_flight a two.0 (c.take_and_reclaim.ensures.others_in_flight a three.0 three.1)

pub returns-then-take_and_reclaim-3-clause-no_owner_tokens : goal.returns-then-take_and_reclaim-3-clause-no_owner_tokens
returns-then-take_and_reclaim-3-clause-no_owner_tokens g c =
    let t = c.in-Some.a in
    let u = c.in-Some-submit_by_method.b in
    let one = c.in-Some.ensures.submitted.unreclaimed [] (none-at-rest _ c.requires.owner_has_no_tokens) in
    let two = c.in-Some-submit_by_method.ensures.submitted.unreclaimed (t ∷ []) one in
    let three = c.in-Some-submit_by_method-2.ensures.submitted.unreclaimed (u ∷ t ∷ []) two in
    let four = c.take_and_reclaim.ensures.unreclaimed c.if-take_and_reclaim.true (u ∷ t ∷ []) three in
    let five = c.take_and_reclaim-then-take_and_reclaim.ensures.unreclaimed c.if-take_and_reclaim-2.true (t ∷ []) four in
    let six = c.take_and_reclaim-then-take_and_reclaim-2.ensures.unreclaimed c.if-take_and_reclaim-3.true [] five in
    (rests-with-none _ six, c.work_alone-calls.ensures.no_owner_tokens)
