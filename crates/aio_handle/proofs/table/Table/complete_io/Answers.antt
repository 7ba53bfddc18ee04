use Rattle.std.proofs.Common.{ℕ, ◌<◌, [], sym, ap, ◌∙◌, subst, refl}
use Rattle.aio_word.specs.declared.WaitRef.{WaitRef}
use Rattle.aio_word.specs.declared.Known.{Known}
use Rattle.aio_word.specs.declared.Step.TheVariants as event
use Rattle.aio_word.specs.Events.{handle_count}
use Rattle.aio_word.specs.Tokens.{IsClaimed, IsExecuted}
use Rattle.aio_handle.specs.Seats.{seat_known}
use Rattle.aio_handle.specs.LifeWords.{claimed_word, executed_word}
use Rattle.aio_handle.proofs.CallAnswers.{inside-from-view}
use Rattle.aio_handle.proofs.ClaimerSteps.{execute-is-allowed}
use Rattle.aio_handle.proofs.TokensAfterEvent.{claimed-slot-out, executed-token}
use Rattle.aio_handle.proofs.CallSteps.{executes-made, stays-seated}
use Rattle.aio_handle.specs.CallEvents.{EventMade}
use Rattle.aio_handle.proofs.CacheAfterEvents.{caches-plain}
use Rattle.aio_handle.proofs.table.Table.complete_io.Goals as goal

pub swap-requires : goal.swap-requires
swap-requires g c =
    let h : ℕ = c.claimed.inside.reference.handle in
    let range : h < handle_count c.self.inside.config = subst (λ (z : ℕ). h < z)
    (sym c.self.invariant.3) c.claimed.invariant.handle in
    let t = inside-from-view IsClaimed (ap (λ x. x.known) c.actor.view_is)
    (ap (λ z. z.0) c.claimed.view_is) c.requires.token in (
      ap (λ x. x.table) c.actor.view_is ∙
          (c.requires.table.0 ∙ sym (ap (λ x. x.table) c.self.view_is)),
      subst (λ (z : ℕ). h < z) (sym c.self.invariant.1) range,
      execute-is-allowed _ c.actor.invariant.0.one
          (subst (λ z. h < handle_count z) (sym c.self.invariant.0) range)
          c.number_of-word.ensures c.requires.class t,
    )

pub invariant_of-actor : goal.invariant_of-actor
invariant_of-actor g c =
    let t = inside-from-view IsClaimed (ap (λ x. x.known) c.actor.view_is)
    (ap (λ z. z.0) c.claimed.view_is) c.requires.token in (
      stays-seated c.actor.invariant.0 c.swap.ensures.2.1 (claimed-slot-out t),
      c.actor.invariant.1,
      caches-plain (executes-made c.swap.ensures.2 c.args.class
          c.claimed.inside.reference.generation c.number_of-word.ensures) tt
          c.actor.invariant.2,
    )

pub returns-clause-token : goal.returns-clause-token
returns-clause-token g c = (
  refl,
  subst (λ (z : WaitRef). IsExecuted c.args.class (seat_known c.swap.new.seat.me.0) z)
      (ap (λ z. z.0) c.claimed.view_is)
      (executed-token c.actor.invariant.0.marks_once (executes-made c.swap.ensures.2 c.args.class
      c.claimed.inside.reference.generation c.number_of-word.ensures)),
)

pub returns-clause-event : goal.returns-clause-event
returns-clause-event g c =
    subst (λ (z : WaitRef × Known). EventMade (event.Io c.args.class) z.0.handle
    (claimed_word z.0.generation)
    (executed_word c.args.class z.0.generation) [] z.1 (seat_known c.swap.new.seat.me.0))
    (λ k. ((c.claimed.view_is k).0, (c.actor.view_is k).known))
    (executes-made c.swap.ensures.2 c.args.class c.claimed.inside.reference.generation
    c.number_of-word.ensures)
