use Rattle.std.proofs.Common.{ℕ, ◌<◌, List, ◌∷◌, sym, ap, ◌∙◌, subst, Some}
use Rattle.atomic_table.specs.Table.{rest}
use Rattle.aio_word.specs.declared.WaitRef.{WaitRef}
use Rattle.aio_word.specs.declared.Known.{Known}
use Rattle.aio_word.specs.declared.Step.TheVariants as event
use Rattle.aio_word.specs.Events.{handle_count, wait_ref}
use Rattle.aio_word.specs.Stands.{IsIn}
use Rattle.aio_word.specs.Tokens.{IsStaged}
use Rattle.aio_handle.specs.Seats.{seat_known}
use Rattle.aio_handle.specs.CallEvents.{EventMade}
use Rattle.aio_handle.specs.LifeWords.{staged_word, unclaimed_word}
use Rattle.aio_handle.proofs.CallAnswers.{inside-from-view}
use Rattle.aio_handle.proofs.OwnerSteps.{submit-is-allowed}
use Rattle.aio_handle.proofs.TokensAfterEvent.{staged-slot-out, submitted-token, submit-notes}
use Rattle.aio_handle.proofs.SeatAfterStep.{moved_to_front-first}
use Rattle.aio_handle.proofs.CallSteps.{event-of, returns-seated, same-front}
use Rattle.aio_handle.proofs.CacheAfterEvents.{caches-plain}
use Rattle.aio_handle.proofs.table.Table.submit.Goals as goal

pub exchange-requires : goal.exchange-requires
exchange-requires g c =
    let t = inside-from-view IsStaged (ap (λ x. x.known) c.actor.view_is)
    (ap (λ z. z.0) c.token.view_is) c.requires.token in
    let b = moved_to_front-first c.token.inside.reference.handle _ c.actor.inside.seat.me.1
    (c.actor.invariant.0.out_slots c.token.inside.reference.handle (staged-slot-out t)) in
    let e = ap (λ x. x.1) c.move_slot_to_front.ensures.2 in (
      c.move_slot_to_front.ensures.0 ∙
          (ap (λ x. x.table) c.actor.view_is ∙
          (c.requires.table.0 ∙ sym (ap (λ x. x.table) c.self.view_is))),
      (b.0, e ∙ (b.1 ∙ ap (λ z. (c.token.inside.reference.handle, b.0) ∷ rest z) (sym e))),
    )

pub swap-requires : goal.swap-requires
swap-requires g c =
    let h : ℕ = c.token.inside.reference.handle in
    let range : h < handle_count c.self.inside.config = subst (λ (z : ℕ). h < z)
    (sym c.self.invariant.3) c.token.invariant.0.handle in
    let t = inside-from-view IsStaged (ap (λ x. x.known) c.actor.view_is)
    (ap (λ z. z.0) c.token.view_is) c.requires.token in
    let f = ap (λ x. x.1) c.exchange.ensures.3 in (
      c.exchange.ensures.0 ∙
          (c.move_slot_to_front.ensures.0 ∙
          (ap (λ x. x.table) c.actor.view_is ∙
          (c.requires.table.0 ∙ sym (ap (λ x. x.table) c.self.view_is)))),
      subst (λ (z : ℕ). h < z) (sym c.self.invariant.1) range,
      submit-is-allowed _ (ap (λ x. x.0) c.exchange.ensures.3
          ∙ (ap (λ x. x.0) c.move_slot_to_front.ensures.2 ∙ c.actor.invariant.0.one))
          (subst (λ z. h < handle_count z) (sym c.self.invariant.0) range)
          c.token.inside.io c.number_of-word.ensures
          (f ∙ ap (λ z. (h, Some c.token.inside.io) ∷ rest z) (sym f)) t
          c.token.invariant.1 c.token.invariant.2,
    )

pub invariant_of-actor : goal.invariant_of-actor
invariant_of-actor g c =
    let t = inside-from-view IsStaged (ap (λ x. x.known) c.actor.view_is)
    (ap (λ z. z.0) c.token.view_is) c.requires.token in (
      returns-seated c.actor.invariant.0 c.swap.ensures.2.2
          (ap (λ x. x.0) c.exchange.ensures.3 ∙ ap (λ x. x.0) c.move_slot_to_front.ensures.2)
          (ap (λ x. rest x.1) c.exchange.ensures.3
          ∙ ap (λ x. rest x.1) c.move_slot_to_front.ensures.2)
          (staged-slot-out t),
      c.actor.invariant.1,
      caches-plain (event-of c.swap.ensures.2.2.0
          (ap (λ x. x.0) c.exchange.ensures.3 ∙ ap (λ x. x.0) c.move_slot_to_front.ensures.2)
          c.token.inside.reference.generation (λ a b x. x) c.number_of-word.ensures) tt
          c.actor.invariant.2,
    )

pub returns-clause-token : goal.returns-clause-token
returns-clause-token g c =
    let t : WaitRef = wait_ref c.token.inside.reference.handle c.token.inside.reference.generation in
    let q : Known = seat_known c.swap.new.seat.me.0 in
    let md = event-of c.swap.ensures.2.2.0
    (ap (λ x. x.0) c.exchange.ensures.3 ∙ ap (λ x. x.0) c.move_slot_to_front.ensures.2)
    c.token.inside.reference.generation (λ a b x. x) c.number_of-word.ensures in
    let er = same-front t.handle c.swap.ensures.2.0 c.token.inside.io _ _ _ c.swap.ensures.2.1
    (ap (λ x. x.1) c.exchange.ensures.3) in (
      ap (λ z. z.0) c.token.view_is,
      submitted-token c.actor.invariant.0.marks_once md,
      subst (λ (z : WaitRef × List ℕ). IsIn z q.aims)
          (λ k. (t, g.R.Record.aim (c.token.view_is k).1))
          (subst (λ z. IsIn (t, g.R.Record.aim z) q.aims) er (submit-notes md)),
    )

pub returns-clause-event : goal.returns-clause-event
returns-clause-event g c =
    let h : ℕ = c.token.inside.reference.handle in
    let n : ℕ = c.token.inside.reference.generation in
    let md = event-of c.swap.ensures.2.2.0
    (ap (λ x. x.0) c.exchange.ensures.3 ∙ ap (λ x. x.0) c.move_slot_to_front.ensures.2) n
    (λ a b x. x) c.number_of-word.ensures in
    let er = same-front h c.swap.ensures.2.0 c.token.inside.io _ _ _ c.swap.ensures.2.1
    (ap (λ x. x.1) c.exchange.ensures.3) in
    subst (λ (z : (WaitRef × g.row.R.Denot) × Known). EventMade event.Submit z.0.0.handle
    (staged_word z.0.0.generation) (unclaimed_word z.0.0.generation) (g.R.Record.aim z.0.1) z.1
    (seat_known c.swap.new.seat.me.0)) (λ k. (c.token.view_is k, (c.actor.view_is k).known))
    (subst (λ z. EventMade event.Submit h (staged_word n) (unclaimed_word n) (g.R.Record.aim z)
    (seat_known c.actor.inside.seat.me.0) (seat_known c.swap.new.seat.me.0)) er md)
