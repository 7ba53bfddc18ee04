use Rattle.std.proofs.Common.{◌≡◌, ℕ, ◌<◌, [], ◌∷◌, sym, ap, ◌∙◌, subst, Some, None, inl}
use Rattle.atomic_table.specs.Table.{rest}
use Rattle.aio_word.specs.declared.WaitRef.{WaitRef}
use Rattle.aio_word.specs.declared.Known.{Known}
use Rattle.aio_word.specs.declared.Step.TheVariants as event
use Rattle.aio_word.specs.Events.{handle_count}
use Rattle.aio_handle.specs.Seats.{seat_known}
use Rattle.aio_handle.specs.CallEvents.{EventMade}
use Rattle.aio_handle.specs.LifeWords.{handed_out_word, idle_word}
use Rattle.aio_handle.proofs.CallAnswers.{inside-from-view}
use Rattle.aio_handle.proofs.OwnerSteps.{release-is-allowed}
use Rattle.aio_handle.proofs.SeatAfterStep.{moved_to_front-none}
use Rattle.aio_handle.proofs.CallSteps.{event-of, returns-seated}
use Rattle.aio_handle.proofs.CacheAfterEvents.{caches-released}
use Rattle.aio_handle.proofs.table.Table.release.Goals as goal

pub swap-requires : goal.swap-requires
swap-requires g c =
    let h : ℕ = c.token.inside.reference.handle in
    let range : h < handle_count c.self.inside.config = subst (λ (z : ℕ). h < z)
    (sym c.self.invariant.3) c.token.invariant.handle in
    let t = inside-from-view (λ k t. k.out ≡ Some t) (ap (λ x. x.known) c.actor.view_is)
    c.token.view_is c.requires.token in
    let f = ap (λ x. x.1) c.move_slot_to_front.ensures.2 in
    let b = moved_to_front-none c.actor.invariant.0 (c.token.inside.reference.generation, inl t) in (
      c.move_slot_to_front.ensures.0 ∙
          (ap (λ x. x.table) c.actor.view_is ∙
          (c.requires.table.0 ∙ sym (ap (λ x. x.table) c.self.view_is))),
      subst (λ (z : ℕ). h < z) (sym c.self.invariant.1) range,
      release-is-allowed _
          (ap (λ x. x.0) c.move_slot_to_front.ensures.2 ∙ c.actor.invariant.0.one)
          (subst (λ z. h < handle_count z) (sym c.self.invariant.0) range)
          c.number_of-word.ensures (f ∙ (b ∙ ap (λ z. (h, None) ∷ rest z) (sym f))) t,
    )

pub invariant_of-actor : goal.invariant_of-actor
invariant_of-actor g c =
    let t = inside-from-view (λ k t. k.out ≡ Some t) (ap (λ x. x.known) c.actor.view_is)
    c.token.view_is c.requires.token in (
      returns-seated c.actor.invariant.0 c.swap.ensures.2 (ap (λ x. x.0) c.move_slot_to_front.ensures.2)
          (ap (λ x. rest x.1) c.move_slot_to_front.ensures.2) (c.token.inside.reference.generation, inl t),
      c.actor.invariant.1,
      caches-released (event-of c.swap.ensures.2.0 (ap (λ x. x.0) c.move_slot_to_front.ensures.2)
          c.token.inside.reference.generation (λ a b x. x) c.number_of-word.ensures)
          c.actor.invariant.2,
    )

pub returns-clause-event : goal.returns-clause-event
returns-clause-event g c = subst
    (λ (z : WaitRef × Known). EventMade event.Release z.0.handle (handed_out_word z.0.generation)
    (idle_word z.0.generation) [] z.1 (seat_known c.swap.new.seat.me.0))
    (λ k. (c.token.view_is k, (c.actor.view_is k).known))
    (event-of c.swap.ensures.2.0 (ap (λ x. x.0) c.move_slot_to_front.ensures.2)
    c.token.inside.reference.generation (λ a b x. x) c.number_of-word.ensures)
