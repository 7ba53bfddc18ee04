use Rattle.std.proofs.Common.{[], ◌∷◌, refl, subst}
use Rattle.aio_word.specs.declared.Known.{Known}
use Rattle.aio_word.specs.declared.Kind.TheVariants as kind
use Rattle.aio_word.specs.declared.WaitRef.{WaitRef}
use Rattle.aio_word.specs.Tokens.{AppendsMarks, make_mark}
use Rattle.aio_handle.proofs.ListsGrow.{claim-grows, appends-then}
use Rattle.aio_handle.proofs.TokensStay.{unchanged-by-execution}
use Rattle.aio_fixtures.proofs.ClaimOutcomes.{completed-takes-up, looked-takes-up}
use Rattle.aio_fixtures.proofs.UnreclaimedIos.{taken-up-unreclaimed, taken-up-rests}
use Rattle.aio_fixtures.proofs.claimer.claim_and_complete.Goals as goal

marks : goal.returns-clause-marks
marks g c _ =
    let t : WaitRef = c.args.reference in
    let before : Known = c.args.actor.now.known in
    let claimed : Known = c.claim.new.actor.known in
    let ended : Known = c.complete_as.new.actor.known in
    appends-then before claimed ended (make_mark t kind.Claimed ∷ [])
    (make_mark t (kind.Io c.args.class) ∷ make_mark t kind.Shared ∷ [])
    (claim-grows t.handle t.generation _ before claimed c.in-Some.ensures.won.1)
    (subst (λ (u : WaitRef). AppendsMarks claimed ended
    (make_mark u (kind.Io c.args.class) ∷ make_mark u kind.Shared ∷ [])) c.in-Some.ensures.won.0
    c.complete_as.ensures.marks)

pub returns-clause-marks : goal.returns-clause-marks
returns-clause-marks g c done = marks g c done

pub returns-clause-tokens_unchanged : goal.returns-clause-tokens_unchanged
returns-clause-tokens_unchanged g c u = unchanged-by-execution u [] _ _ _ _ _ _
    (completed-takes-up c.args.reference c.args.class _ _ (marks g c refl))

pub returns-clause-unreclaimed : goal.returns-clause-unreclaimed
returns-clause-unreclaimed g c ts o = taken-up-unreclaimed ts _ _ _ _ _ _
    (completed-takes-up c.args.reference c.args.class _ _ (marks g c refl)) o

pub returns-clause-no_owner_tokens : goal.returns-clause-no_owner_tokens
returns-clause-no_owner_tokens g c no_owner_tokens = taken-up-rests _ _ _ _ _ _
    (completed-takes-up c.args.reference c.args.class _ _ (marks g c refl)) no_owner_tokens

pub returns-in_default-clause-tokens_unchanged : goal.returns-in_default-clause-tokens_unchanged
returns-in_default-clause-tokens_unchanged g c u = unchanged-by-execution u [] _ _ _ _ _ _
    (looked-takes-up _ _ _ _ c.in_default.ensures.lost.1)

pub returns-in_default-clause-unreclaimed : goal.returns-in_default-clause-unreclaimed
returns-in_default-clause-unreclaimed g c ts o = taken-up-unreclaimed ts _ _ _ _ _ _
    (looked-takes-up _ _ _ _ c.in_default.ensures.lost.1) o

pub returns-in_default-clause-no_owner_tokens : goal.returns-in_default-clause-no_owner_tokens
returns-in_default-clause-no_owner_tokens g c no_owner_tokens = taken-up-rests _ _ _ _ _ _
    (looked-takes-up _ _ _ _ c.in_default.ensures.lost.1) no_owner_tokens
