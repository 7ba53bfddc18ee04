use Rattle.std.proofs.Common.{ℕ, List, [], ◌∷◌, sym, ap, ◌∙◌, subst, arith}
use Rattle.aio_word.specs.declared.WaitRef.{WaitRef}
use Rattle.aio_word.specs.declared.Known.{Known}
use Rattle.aio_word.specs.declared.Step.TheVariants as event
use Rattle.aio_word.specs.Stands.{IsIn}
use Rattle.aio_fixtures.specs.Lives.{HasUnreclaimed}
use Rattle.aio_fixtures.proofs.Lives.{amid, amid-then, begun}
use Rattle.aio_fixtures.proofs.UnreclaimedIos.{none-at-rest, submitted-unreclaimed}
use Rattle.example_handle.specs.declared.note.Note.{Note}
use Rattle.example_handle.proofs.backend.offer.Goals as goal

pub returns : goal.returns
returns g c =
    let t : WaitRef = c.in-Ok.token in
    let p : Known = c.args.backend.known in
    let q : Known = c.acquire.new.actor.known in
    let d : Known = c.define-token.new.actor.known in
    let s : Known = c.stage-token.new.actor.known in
    let r : Known = c.submit-token.new.actor.known in
    let acquire = c.in-Ok.ensures.event in
    let define = c.define-token.ensures.event in
    let stage = c.stage-token.ensures.event in
    let submit = c.submit-token.ensures.event in
    let of1 = c.acquire.ensures.same in
    let of2 = c.define-token.ensures.same in
    let of3 = c.stage-token.ensures.same in
    let of4 = c.submit-token.ensures.same in
    let out = ap (λ (x : Known). x.out) submit.is ∙ (ap (λ (x : Known). x.out) stage.is
    ∙ ap (λ (x : Known). x.out) define.is) in
    let one = c.submit-token.ensures.token.0
    ∙ (ap (λ (x : WaitRef × Note). x.0) c.stage-token.ensures.token.0
    ∙ c.define-token.ensures.token.0) in
    let begins = begun t.handle t.generation _ q d r define (amid-then d s r
    (amid event.Stage _ _ _ _ d s stage (omega arith) (omega arith))
    (amid event.Submit _ _ _ _ s r submit (omega arith) (omega arith))) in
    let aim = ap (λ (x : WaitRef × Note). x.1.number ∷ []) c.stage-token.ensures.token.0
    ∙ (c.define-token.ensures.token.1 ∙ ap (λ (n : ℕ). n ∷ []) c.about.ensures.1) in (
      (
        of4.0 ∙ (of3.0 ∙ (of2.0 ∙ (of1.0 ∙ c.requires.idle.0.0))),
        of4.1 ∙ (of3.1 ∙ (of2.1 ∙ (of1.1 ∙ c.requires.idle.0.1))),
      ),
      record {
        in_flight = c.submit-token.ensures.token.1;
        only = subst (λ (x : WaitRef). HasUnreclaimed (x ∷ []) r) (sym one)
            (submitted-unreclaimed t [] _ _ _ p q r acquire begins out
            (none-at-rest p c.requires.idle.1));
        aim = subst (λ (a : List ℕ). IsIn (c.submit-token.result, a) r.aims) aim
            c.submit-token.ensures.token.2;
      },
    )
