use Rattle.std.proofs.Common.{[], ◌∷◌, refl}
use Rattle.aio_fixtures.proofs.UnreclaimedIos.{none-at-rest, rests-with-none}
use Rattle.method_tests.proofs.ring.rings.four_and_one.Goals as goal

pub take_and_reclaim-requires-then-take_and_reclaim-clause-token : goal.take_and_reclaim-requires-then-take_and_reclaim-clause-token
take_and_reclaim-requires-then-take_and_reclaim-clause-token g c =
    let k = c.in-Some-submit_and_push-2.c in
    let four = c.in-Some-submit_and_push-3.ensures.submitted.others_in_flight k c.in-Some-submit_and_push-2.ensures.submitted.token in
    c.take_and_reclaim.ensures.others_in_flight k four.0 four.1

pub take_and_reclaim-requires-then-take_and_reclaim-2-clause-token : goal.take_and_reclaim-requires-then-take_and_reclaim-2-clause-token
take_and_reclaim-requires-then-take_and_reclaim-2-clause-token g c =
    let b = c.in-Some-submit_and_push.b in
    let three = c.in-Some-submit_and_push-2.ensures.submitted.others_in_flight b c.in-Some-submit_and_push.ensures.submitted.token in
    let four = c.in-Some-submit_and_push-3.ensures.submitted.others_in_flight b three.1 in
    c.take_and_reclaim-then-take_and_reclaim.ensures.others_in_flight b three.0 (c.take_and_reclaim.ensures.others_in_flight b four.0 four.1)

pub take_and_reclaim-requires-then-take_and_reclaim-3-clause-token : goal.take_and_reclaim-requires-then-take_and_reclaim-3-clause-token
take_and_reclaim-requires-then-take_and_reclaim-3-clause-token g c =
    let a = c.in-Some.a in
    let two = c.in-Some-submit_and_push.ensures.submitted.others_in_flight a c.in-Some.ensures.submitted.token in
    let three = c.in-Some-submit_and_push-2.ensures.submitted.others_in_flight a two.1 in
    let four = c.in-Some-submit_and_push-3.ensures.submitted.others_in_flight a three.1 in
    c.take_and_reclaim-then-take_and_reclaim-2.ensures.others_in_flight a two.0
    (c.take_and_reclaim-then-take_and_reclaim.ensures.others_in_flight a three.0 (c.take_and_reclaim.ensures.others_in_flight a four.0 four.1))

pub returns-then-take_and_reclaim-3-clause-no_owner_tokens : goal.returns-then-take_and_reclaim-3-clause-no_owner_tokens
returns-then-take_and_reclaim-3-clause-no_owner_tokens g c ready =
    let a = c.in-Some.a in
    let b = c.in-Some-submit_and_push.b in
    let k = c.in-Some-submit_and_push-2.c in
    let one = c.in-Some.ensures.submitted.unreclaimed [] (none-at-rest _ c.requires.no_owner_tokens.0) in
    let two = c.in-Some-submit_and_push.ensures.submitted.unreclaimed (a ∷ []) one in
    let three = c.in-Some-submit_and_push-2.ensures.submitted.unreclaimed (b ∷ a ∷ []) two in
    let four = c.in-Some-submit_and_push-3.ensures.submitted.unreclaimed (k ∷ b ∷ a ∷ []) three in
    let five = c.take_and_reclaim.ensures.unreclaimed c.if-take_and_reclaim.true (k ∷ b ∷ a ∷ []) four in
    let six = c.take_and_reclaim-then-take_and_reclaim.ensures.unreclaimed c.if-take_and_reclaim-2.true (b ∷ a ∷ []) five in
    let seven = c.take_and_reclaim-then-take_and_reclaim-2.ensures.unreclaimed c.if-take_and_reclaim-3.true (a ∷ []) six in
    let eight = c.take_and_reclaim-then-take_and_reclaim-3.ensures.unreclaimed ready [] seven in
    (rests-with-none _ eight, c.if-not-read_and_wait.ensures.no_owner_tokens refl)
