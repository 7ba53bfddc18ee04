use Rattle.std.proofs.Common.{◌≡◌, ℕ, ◌<◌, [], sym, ap, ◌∙◌, subst, refl, Some, inl, false}
use Rattle.aio_word.specs.declared.WaitRef.{WaitRef}
use Rattle.aio_word.specs.declared.Known.{Known}
use Rattle.aio_word.specs.declared.Step.TheVariants as event
use Rattle.aio_word.specs.Events.{handle_count}
use Rattle.aio_handle.specs.Seats.{seat_known}
use Rattle.aio_handle.specs.CallEvents.{EventMade}
use Rattle.aio_handle.specs.LifeWords.{handed_out_word, defined_word}
use Rattle.aio_handle.specs.OwnHandleCache.{CachesOwnHandles}
use Rattle.aio_handle.proofs.CallAnswers.{inside-from-view}
use Rattle.aio_handle.proofs.OwnerSteps.{define-is-allowed}
use Rattle.aio_handle.proofs.TokensAfterEvent.{defined-token}
use Rattle.aio_handle.proofs.CallSteps.{event-of, stays-seated}
use Rattle.aio_handle.proofs.CacheAfterLives.{caches-defined}
use Rattle.aio_handle.proofs.FreeHandles.{owner-place}
use Rattle.aio_handle.proofs.table.Table.define.Goals as goal

pub swap-requires : goal.swap-requires
swap-requires g c =
    let h : ℕ = c.token.inside.reference.handle in
    let range : h < handle_count c.self.inside.config = subst (λ (z : ℕ). h < z)
    (sym c.self.invariant.3) c.token.invariant.handle in
    let t = inside-from-view (λ k t. k.out ≡ Some t) (ap (λ x. x.known) c.actor.view_is)
    c.token.view_is c.requires.token in (
      ap (λ x. x.table) c.actor.view_is ∙
          (c.requires.table.0 ∙ sym (ap (λ x. x.table) c.self.view_is)),
      subst (λ (z : ℕ). h < z) (sym c.self.invariant.1) range,
      define-is-allowed _ c.actor.invariant.0.one
          (subst (λ z. h < handle_count z) (sym c.self.invariant.0) range)
          c.number_of-word.ensures t,
    )

pub invariant_of-actor : goal.invariant_of-actor
invariant_of-actor g c =
    let h : ℕ = c.token.inside.reference.handle in
    let t = inside-from-view (λ k t. k.out ≡ Some t) (ap (λ x. x.known) c.actor.view_is)
    c.token.view_is c.requires.token in
    let md = event-of c.swap.ensures.2 refl c.token.inside.reference.generation (λ a b x. x)
    c.number_of-word.ensures in
    let same = (sym c.actor.invariant.0.config ∙ ap (λ x. x.known.config) c.actor.view_is) ∙
    (c.requires.table.1 ∙ sym (ap (λ x. x.config) c.self.view_is)) in
    let at = owner-place md tt c.actor.invariant.0.config
    (subst (λ z. h < handle_count z) (sym same)
    (subst (λ (z : ℕ). h < z) (sym c.self.invariant.3) c.token.invariant.handle))
    c.actor.invariant.2.own_handles_match in (
      stays-seated c.actor.invariant.0 c.swap.ensures.2 (c.token.inside.reference.generation, inl t),
      c.actor.invariant.1,
      subst (λ xs. CachesOwnHandles c.actor.inside.config xs c.actor.inside.turn false
          c.actor.inside.claims (seat_known c.swap.new.seat.me.0)) (sym c.remember.ensures)
          (caches-defined md c.actor.invariant.0.config c.actor.invariant.0.marks_once at.1 at.0
          c.token.invariant.generation c.actor.invariant.2),
    )

pub returns-clause-token : goal.returns-clause-token
returns-clause-token g c = (
  c.token.view_is,
  c.bind.ensures.aim,
  defined-token c.actor.invariant.0.marks_once (event-of c.swap.ensures.2 refl
      c.token.inside.reference.generation (λ a b x. x) c.number_of-word.ensures),
)

pub remember-requires : goal.remember-requires
remember-requires g c =
    let h : ℕ = c.token.inside.reference.handle in
    let same = (sym c.actor.invariant.0.config ∙ ap (λ x. x.known.config) c.actor.view_is) ∙
    (c.requires.table.1 ∙ sym (ap (λ x. x.config) c.self.view_is)) in
    let at = owner-place (event-of c.swap.ensures.2 refl c.token.inside.reference.generation
    (λ a b x. x) c.number_of-word.ensures) tt c.actor.invariant.0.config
    (subst (λ z. h < handle_count z) (sym same)
    (subst (λ (z : ℕ). h < z) (sym c.self.invariant.3) c.token.invariant.handle))
    c.actor.invariant.2.own_handles_match in record {
      some = c.actor.invariant.1.per_backend.0;
      range = at.0;
    }

pub returns-clause-event : goal.returns-clause-event
returns-clause-event g c = subst
    (λ (z : WaitRef × Known). EventMade event.Define z.0.handle (handed_out_word z.0.generation)
    (defined_word z.0.generation) [] z.1 (seat_known c.swap.new.seat.me.0))
    (λ k. (c.token.view_is k, (c.actor.view_is k).known))
    (event-of c.swap.ensures.2 refl c.token.inside.reference.generation (λ a b x. x)
    c.number_of-word.ensures)
