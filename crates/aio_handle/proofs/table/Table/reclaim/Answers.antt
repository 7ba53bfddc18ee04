use Rattle.std.proofs.Common.{ℕ, ◌+◌, ◌<◌, [], ◌∷◌, sym, ap, ◌∙◌, subst, arith, None}
use Rattle.atomic_table.specs.Table.{rest}
use Rattle.aio_word.specs.declared.WaitRef.{WaitRef}
use Rattle.aio_word.specs.declared.Known.{Known}
use Rattle.aio_word.specs.declared.Step.TheVariants as event
use Rattle.aio_word.specs.Events.{handle_count}
use Rattle.aio_word.specs.Tokens.{IsLocal}
use Rattle.aio_handle.specs.Seats.{seat_known}
use Rattle.aio_handle.specs.CallEvents.{EventMade}
use Rattle.aio_handle.specs.LifeWords.{idle_word, taken_word}
use Rattle.aio_handle.specs.OwnHandleCache.{CachesOwnHandles}
use Rattle.aio_handle.proofs.CallAnswers.{inside-from-view}
use Rattle.aio_handle.proofs.OwnerSteps.{reclaim-is-allowed}
use Rattle.aio_handle.proofs.TokensAfterEvent.{local-slot-out}
use Rattle.aio_handle.proofs.SeatAfterStep.{moved_to_front-none}
use Rattle.aio_handle.proofs.CallSteps.{event-of, returns-seated}
use Rattle.aio_handle.proofs.CacheAfterLives.{caches-reclaimed}
use Rattle.aio_handle.proofs.FreeHandles.{owner-place}
use Rattle.aio_handle.proofs.table.Table.reclaim.Goals as goal

pub swap-requires : goal.swap-requires
swap-requires g c =
    let h : ℕ = c.token.inside.reference.handle in
    let range : h < handle_count c.self.inside.config = subst (λ (z : ℕ). h < z)
    (sym c.self.invariant.3) c.token.invariant.handle in
    let t = inside-from-view IsLocal (ap (λ x. x.known) c.actor.view_is)
    (ap (λ z. z.0) c.token.view_is) c.requires.token in
    let f = ap (λ x. x.1) c.move_slot_to_front.ensures.2 in
    let b = moved_to_front-none c.actor.invariant.0 (local-slot-out t) in (
      c.move_slot_to_front.ensures.0 ∙
          (ap (λ x. x.table) c.actor.view_is ∙
          (c.requires.table.0 ∙ sym (ap (λ x. x.table) c.self.view_is))),
      subst (λ (z : ℕ). h < z) (sym c.self.invariant.1) range,
      reclaim-is-allowed _
          (ap (λ x. x.0) c.move_slot_to_front.ensures.2 ∙ c.actor.invariant.0.one)
          (subst (λ z. h < handle_count z) (sym c.self.invariant.0) range)
          c.number_of-word.ensures (f ∙ (b ∙ ap (λ z. (h, None) ∷ rest z) (sym f))) t,
    )

pub invariant_of-actor : goal.invariant_of-actor
invariant_of-actor g c =
    let h : ℕ = c.token.inside.reference.handle in
    let t = inside-from-view IsLocal (ap (λ x. x.known) c.actor.view_is)
    (ap (λ z. z.0) c.token.view_is) c.requires.token in
    let md = event-of c.swap.ensures.2.1.0 (ap (λ x. x.0) c.move_slot_to_front.ensures.2)
    c.token.inside.reference.generation (λ a b x. omega arith) c.number_of-word.ensures in
    let same = (sym c.actor.invariant.0.config ∙ ap (λ x. x.known.config) c.actor.view_is) ∙
    (c.requires.table.1 ∙ sym (ap (λ x. x.config) c.self.view_is)) in
    let at = owner-place md tt c.actor.invariant.0.config
    (subst (λ z. h < handle_count z) (sym same)
    (subst (λ (z : ℕ). h < z) (sym c.self.invariant.3) c.token.invariant.handle))
    c.actor.invariant.2.own_handles_match in (
      returns-seated c.actor.invariant.0 c.swap.ensures.2.1 (ap (λ x. x.0) c.move_slot_to_front.ensures.2)
          (ap (λ x. rest x.1) c.move_slot_to_front.ensures.2) (local-slot-out t),
      c.actor.invariant.1,
      subst (λ xs. CachesOwnHandles c.actor.inside.config xs c.actor.inside.turn
          c.actor.inside.is_out c.actor.inside.claims (seat_known c.swap.new.seat.me.0))
          (sym c.remember.ensures)
          (caches-reclaimed md c.actor.invariant.0.config c.actor.invariant.0.marks_once at.1 at.0
          c.token.invariant.generation c.actor.invariant.2),
    )

pub remember-requires : goal.remember-requires
remember-requires g c =
    let h : ℕ = c.token.inside.reference.handle in
    let same = (sym c.actor.invariant.0.config ∙ ap (λ x. x.known.config) c.actor.view_is) ∙
    (c.requires.table.1 ∙ sym (ap (λ x. x.config) c.self.view_is)) in
    let at = owner-place (event-of c.swap.ensures.2.1.0 (ap (λ x. x.0) c.move_slot_to_front.ensures.2)
    c.token.inside.reference.generation (λ a b x. omega arith) c.number_of-word.ensures) tt
    c.actor.invariant.0.config
    (subst (λ z. h < handle_count z) (sym same)
    (subst (λ (z : ℕ). h < z) (sym c.self.invariant.3) c.token.invariant.handle))
    c.actor.invariant.2.own_handles_match in record {
      some = c.actor.invariant.1.per_backend.0;
      range = at.0;
    }

pub returns-clause-event : goal.returns-clause-event
returns-clause-event g c = (
  c.swap.ensures.2.0,
  subst (λ (z : WaitRef × Known). EventMade event.Reclaim z.0.handle
      (taken_word c.swap.ensures.2.0 z.0.generation) (idle_word (z.0.generation + 1)) [] z.1
      (seat_known c.swap.new.seat.me.0))
      (λ k. ((c.token.view_is k).0, (c.actor.view_is k).known))
      (event-of c.swap.ensures.2.1.0 (ap (λ x. x.0) c.move_slot_to_front.ensures.2)
      c.token.inside.reference.generation (λ a b x. omega arith) c.number_of-word.ensures),
)
