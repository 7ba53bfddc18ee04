use Rattle.std.proofs.Common.{ℕ, ◌<◌, [], sym, ap, ◌∙◌, subst, refl}
use Rattle.aio_word.specs.declared.WaitRef.{WaitRef}
use Rattle.aio_word.specs.declared.Known.{Known}
use Rattle.aio_word.specs.declared.Step.TheVariants as event
use Rattle.aio_word.specs.Events.{handle_count}
use Rattle.aio_word.specs.Tokens.{IsDefined}
use Rattle.aio_handle.specs.Seats.{seat_known}
use Rattle.aio_handle.specs.CallEvents.{EventMade}
use Rattle.aio_handle.specs.LifeWords.{defined_word, staged_word}
use Rattle.aio_handle.proofs.CallAnswers.{inside-from-view}
use Rattle.aio_handle.proofs.OwnerSteps.{stage-is-allowed}
use Rattle.aio_handle.proofs.TokensAfterEvent.{defined-slot-out, staged-token}
use Rattle.aio_handle.proofs.CallSteps.{event-of, stays-seated}
use Rattle.aio_handle.proofs.CacheAfterEvents.{caches-plain}
use Rattle.aio_handle.proofs.table.Table.stage.Goals as goal

pub swap-requires : goal.swap-requires
swap-requires g c =
    let h : ℕ = c.token.inside.reference.handle in
    let range : h < handle_count c.self.inside.config = subst (λ (z : ℕ). h < z)
    (sym c.self.invariant.3) c.token.invariant.0.handle in
    let t = inside-from-view IsDefined (ap (λ x. x.known) c.actor.view_is)
    (ap (λ z. z.0) c.token.view_is) c.requires.token in (
      ap (λ x. x.table) c.actor.view_is ∙
          (c.requires.table.0 ∙ sym (ap (λ x. x.table) c.self.view_is)),
      subst (λ (z : ℕ). h < z) (sym c.self.invariant.1) range,
      stage-is-allowed _ c.actor.invariant.0.one
          (subst (λ z. h < handle_count z) (sym c.self.invariant.0) range)
          c.number_of-word.ensures t,
    )

pub invariant_of-actor : goal.invariant_of-actor
invariant_of-actor g c =
    let t = inside-from-view IsDefined (ap (λ x. x.known) c.actor.view_is)
    (ap (λ z. z.0) c.token.view_is) c.requires.token in (
      stays-seated c.actor.invariant.0 c.swap.ensures.2 (defined-slot-out t),
      c.actor.invariant.1,
      caches-plain (event-of c.swap.ensures.2 refl c.token.inside.reference.generation
          (λ a b x. x) c.number_of-word.ensures) tt c.actor.invariant.2,
    )

pub returns-clause-token : goal.returns-clause-token
returns-clause-token g c = (
  c.token.view_is,
  staged-token c.actor.invariant.0.marks_once (event-of c.swap.ensures.2 refl
      c.token.inside.reference.generation (λ a b x. x) c.number_of-word.ensures),
)

pub returns-clause-event : goal.returns-clause-event
returns-clause-event g c =
    subst (λ (z : WaitRef × Known). EventMade event.Stage z.0.handle (defined_word z.0.generation)
    (staged_word z.0.generation) [] z.1 (seat_known c.swap.new.seat.me.0))
    (λ k. ((c.token.view_is k).0, (c.actor.view_is k).known))
    (event-of c.swap.ensures.2 refl c.token.inside.reference.generation (λ a b x. x)
    c.number_of-word.ensures)
