use Rattle.std.proofs.Common.{◌≡◌, ℕ, ◌<◌, [], ◌∷◌, sym, ap, ◌∙◌, subst, Some, false}
use Rattle.atomic_table.specs.Table.{rest}
use Rattle.aio_word.specs.declared.WaitRef.{WaitRef}
use Rattle.aio_word.specs.declared.Known.{Known}
use Rattle.aio_word.specs.declared.Class.{Class}
use Rattle.aio_word.specs.declared.Step.TheVariants as event
use Rattle.aio_word.specs.Words.{packed_word}
use Rattle.aio_word.specs.Events.{handle_count}
use Rattle.aio_word.specs.Stands.{IsIn}
use Rattle.aio_word.specs.Tokens.{IsExecuted}
use Rattle.aio_handle.specs.Seats.{seat_known}
use Rattle.aio_handle.specs.LifeWords.{executed_word, completed_word}
use Rattle.aio_handle.proofs.ClaimerSteps.{share-is-allowed}
use Rattle.aio_handle.proofs.TokensAfterEvent.{executed-slot-out}
use Rattle.aio_handle.proofs.SeatAfterStep.{moved_to_front-first}
use Rattle.aio_handle.proofs.CallSteps.{event-of, returns-seated}
use Rattle.aio_handle.specs.CallEvents.{EventMade}
use Rattle.aio_word.proofs.PackIsInjective.{packed_word-injective}
use Rattle.aio_handle.proofs.CacheAfterEvents.{caches-plain}
use Rattle.aio_handle.proofs.table.Table.complete_shared.Goals as goal

pub exchange-requires : goal.exchange-requires
exchange-requires g c =
    let t = subst
    (λ (z : Known). IsExecuted
    (g.R.Record.label c.claimed.inside.io).ended z c.claimed.inside.reference)
    (sym (ap (λ x. x.known) c.actor.view_is))
    (subst (λ (z : WaitRef × g.row.R.Denot). IsExecuted
    (g.R.Record.label z.1).ended c.args.actor.now.known z.0)
    (sym c.claimed.view_is) c.requires.token.0) in
    let b = moved_to_front-first c.claimed.inside.reference.handle _ c.actor.inside.seat.me.1
    (c.actor.invariant.0.out_slots c.claimed.inside.reference.handle
    (executed-slot-out t)) in
    let e = ap (λ x. x.1) c.move_slot_to_front.ensures.2 in (
      c.move_slot_to_front.ensures.0 ∙
          (ap (λ x. x.table) c.actor.view_is ∙
          (c.requires.table.0 ∙ sym (ap (λ x. x.table) c.self.view_is))),
      (b.0, e ∙ (b.1 ∙ ap (λ z. (c.claimed.inside.reference.handle, b.0) ∷ rest z) (sym e))),
    )

pub swap-requires : goal.swap-requires
swap-requires g c =
    let h : ℕ = c.claimed.inside.reference.handle in
    let range : h < handle_count c.self.inside.config = subst (λ (z : ℕ). h < z)
    (sym c.self.invariant.3) c.claimed.invariant.handle in
    let t = subst
    (λ (z : Known). IsExecuted
    (g.R.Record.label c.claimed.inside.io).ended z c.claimed.inside.reference)
    (sym (ap (λ x. x.known) c.actor.view_is))
    (subst (λ (z : WaitRef × g.row.R.Denot). IsExecuted
    (g.R.Record.label z.1).ended c.args.actor.now.known z.0)
    (sym c.claimed.view_is) c.requires.token.0) in
    let f = ap (λ x. x.1) c.exchange.ensures.3 in (
      c.exchange.ensures.0 ∙
          (c.move_slot_to_front.ensures.0 ∙
          (ap (λ x. x.table) c.actor.view_is ∙
          (c.requires.table.0 ∙ sym (ap (λ x. x.table) c.self.view_is)))),
      subst (λ (z : ℕ). h < z) (sym c.self.invariant.1) range,
      share-is-allowed _ (ap (λ x. x.0) c.exchange.ensures.3
          ∙ (ap (λ x. x.0) c.move_slot_to_front.ensures.2 ∙ c.actor.invariant.0.one))
          (subst (λ z. h < handle_count z) (sym c.self.invariant.0) range)
          c.claimed.inside.io (c.number_of-word.ensures ∙ ap (λ z. packed_word
          (completed_word z c.claimed.inside.reference.generation)) c.ended.ensures)
          (f ∙ ap (λ z. (h, Some c.claimed.inside.io) ∷ rest z)
          (sym f)) t
          (subst (λ (z : WaitRef × g.row.R.Denot). g.R.Record.label z.1
          ≡ record {
            handle = z.0.handle;
            generation = z.0.generation;
            ended =
                (g.R.Record.label z.1).ended;
            settled = false;
          }) (sym c.claimed.view_is)
          c.requires.label) (subst (λ (z : Known). IsIn
          (c.claimed.inside.reference, g.R.Record.aim c.claimed.inside.io) z.aims)
          (sym (ap (λ x. x.known) c.actor.view_is))
          (subst (λ (z : WaitRef × g.row.R.Denot). IsIn (z.0, g.R.Record.aim z.1)
          c.args.actor.now.known.aims) (sym c.claimed.view_is) c.requires.aim))
          (subst (λ (z : WaitRef × g.row.R.Denot). g.R.Record.fits g.W.World.told
          g.W.World.relations z.1) (sym c.claimed.view_is) c.requires.fits),
    )

pub invariant_of-actor : goal.invariant_of-actor
invariant_of-actor g c =
    let t = subst
    (λ (z : Known). IsExecuted
    (g.R.Record.label c.claimed.inside.io).ended z c.claimed.inside.reference)
    (sym (ap (λ x. x.known) c.actor.view_is))
    (subst (λ (z : WaitRef × g.row.R.Denot). IsExecuted
    (g.R.Record.label z.1).ended c.args.actor.now.known z.0)
    (sym c.claimed.view_is) c.requires.token.0) in (
      returns-seated c.actor.invariant.0 c.swap.ensures.2.1
          (ap (λ x. x.0) c.exchange.ensures.3 ∙ ap (λ x. x.0) c.move_slot_to_front.ensures.2)
          (ap (λ x. rest x.1) c.exchange.ensures.3
          ∙ ap (λ x. rest x.1) c.move_slot_to_front.ensures.2)
          (executed-slot-out t),
      c.actor.invariant.1,
      caches-plain (event-of c.swap.ensures.2.1.0
          (ap (λ x. x.0) c.exchange.ensures.3 ∙ ap (λ x. x.0) c.move_slot_to_front.ensures.2) c.swap.ensures.2.1.0.g
          (λ a b x. x) c.swap.ensures.2.1.0.wrote) tt c.actor.invariant.2,
    )

pub returns-clause-event : goal.returns-clause-event
returns-clause-event g c =
    let h : ℕ = c.claimed.inside.reference.handle in
    let n : ℕ = c.claimed.inside.reference.generation in
    let class : Class = c.swap.ensures.2.0 in
    let d = c.swap.ensures.2.1.0 in
    let ec : class ≡ (g.R.Record.label c.claimed.inside.io).ended = ap (λ z. z.class)
    (packed_word-injective (completed_word class d.g) (completed_word c.ended.result n)
    (sym d.wrote ∙ c.number_of-word.ensures)) ∙ c.ended.ensures in
    let md = event-of d (ap (λ x. x.0) c.exchange.ensures.3 ∙ ap (λ x. x.0) c.move_slot_to_front.ensures.2) n
    (λ a b x. x) (c.number_of-word.ensures ∙ ap (λ z. packed_word (completed_word z n))
    (c.ended.ensures ∙ sym ec)) in
    subst (λ (z : (WaitRef × g.row.R.Denot) × Known). EventMade event.Shared z.0.0.handle
    (executed_word (g.R.Record.label z.0.1).ended z.0.0.generation)
    (completed_word (g.R.Record.label z.0.1).ended z.0.0.generation) [] z.1
    (seat_known c.swap.new.seat.me.0)) (λ k. (c.claimed.view_is k, (c.actor.view_is k).known))
    (subst (λ z. EventMade event.Shared h (executed_word z n) (completed_word z n) []
    (seat_known c.actor.inside.seat.me.0) (seat_known c.swap.new.seat.me.0)) ec md)
