use Rattle.std.proofs.Common.{ℕ, ◌<◌, ◌∷◌, refl, sym, ap, ◌∙◌, subst}
use Rattle.atomic_table.specs.Table.{rest}
use Rattle.aio_word.specs.declared.Step.TheVariants as event
use Rattle.aio_word.specs.Events.{handle_count}
use Rattle.aio_handle.specs.Seats.{seat_known}
use Rattle.aio_word.specs.declared.Known.{Known}
use Rattle.aio_handle.specs.LifeWords.{unclaimed_word, claimed_word}
use Rattle.aio_handle.specs.CallEvents.{EventMade}
use Rattle.aio_handle.proofs.CallAnswers.{below-last}
use Rattle.aio_handle.proofs.ClaimerSteps.{load-is-allowed, claim-is-allowed}
use Rattle.aio_handle.proofs.TokensAfterEvent.{claimed-token, claim-notes}
use Rattle.aio_handle.proofs.CallSteps.{taken-first, lost-seated, won-seated, won-made}
use Rattle.aio_handle.proofs.CacheAfterCalls.{seat-after-load, caches-lost-claim, caches-won-claim}
use Rattle.aio_handle.proofs.table.Table.claim.Goals as goal
use Rattle.aio_handle.proofs.table.Table.claim.Given.{Over}

pub load-requires : goal.load-requires
load-requires g c = load-is-allowed _ c.actor.invariant.0.one
    c.self.invariant.0 c.self.invariant.1 c.self.invariant.3 c.requires.range
    (ap (λ x. x.table) c.actor.view_is ∙
    (c.requires.table.0 ∙ sym (ap (λ x. x.table) c.self.view_is)))

pub invariant_of-actor : goal.invariant_of-actor
invariant_of-actor g c = seat-after-load c.actor.invariant c.load.ensures.2

pub compare_exchange-found-requires : goal.compare_exchange-found-requires
compare_exchange-found-requires g c =
    let h : ℕ = c.args.reference.handle in
    let range : h < handle_count c.self.inside.config = subst (λ (z : ℕ). h < z)
    (sym c.self.invariant.3) c.requires.range in (
      (ap (λ x. x.table) c.actor.view_is ∙
          (c.requires.table.0 ∙ sym (ap (λ x. x.table) c.self.view_is))),
      subst (λ (z : ℕ). h < z) (sym c.self.invariant.1) range,
      claim-is-allowed _ c.actor.invariant.0.one
          (subst (λ z. h < handle_count z) (sym c.self.invariant.0) range)
          c.args.reference.generation c.number_of-old.ensures c.number_of-new.ensures,
    )

pub invariant_of-actor-then-found-old : goal.invariant_of-actor-then-found-old
invariant_of-actor-then-found-old g c = (
  lost-seated c.compare_exchange-found.ensures.2 c.if-found-old.true c.actor.invariant.0,
  c.actor.invariant.1,
  caches-lost-claim c.compare_exchange-found.ensures.2 c.if-found-old.true c.actor.invariant.2,
)

pub exchange-requires : goal.exchange-requires
exchange-requires g c = (
  c.compare_exchange-found.ensures.0 ∙
      (ap (λ x. x.table) c.actor.view_is ∙
      (c.requires.table.0 ∙ sym (ap (λ x. x.table) c.self.view_is))),
  taken-first c.compare_exchange-found.ensures.2 c.if-found-old.false,
)

pub invariant_of-actor-in-Some : goal.invariant_of-actor-in-Some
invariant_of-actor-in-Some g c = (
  won-seated c.compare_exchange-found.ensures.2 c.if-found-old.false c.exchange.ensures.3
      c.actor.invariant.0,
  c.actor.invariant.1,
  caches-won-claim c.compare_exchange-found.ensures.2 c.if-found-old.false
      c.saturating_add-actor-inside.ensures (ap (λ x. x.0) c.exchange.ensures.3)
      c.actor.invariant.2,
)

-- what the won claim tells of the record that came
won : (g : Over) (c : goal.After-actor-1 g)
    → EventMade event.Claim c.args.reference.handle
    (unclaimed_word c.args.reference.generation) (claimed_word c.args.reference.generation)
    (g.R.Record.aim c.in-Some.io) (seat_known c.actor.inside.seat.me.0)
    (seat_known c.exchange.new.seat.me.0)
won g c = (won-made c.compare_exchange-found.ensures.2 c.args.reference.generation
    c.if-found-old.false c.number_of-old.ensures
    (c.exchange.ensures.2 ∙ ap
    (λ z. (c.args.reference.handle, z) ∷ rest c.compare_exchange-found.new.seat.me.1) c.in-Some.is)
    (ap (λ x. x.0) c.exchange.ensures.3)).0

pub invariant_of-result : goal.invariant_of-result
invariant_of-result g c = record {
  handle = c.requires.range;
  generation = below-last (won g c) (λ x. cc);
}

pub returns-clause-token : goal.returns-clause-token
returns-clause-token g c = (claimed-token c.actor.invariant.0.marks_once (won g c), claim-notes (won g c))

pub returns-clause-won : goal.returns-clause-won
returns-clause-won g c = (
  refl,
  subst (λ (z : Known). EventMade event.Claim c.args.reference.handle
      (unclaimed_word c.args.reference.generation) (claimed_word c.args.reference.generation)
      (g.R.Record.aim c.in-Some.io) z (seat_known c.exchange.new.seat.me.0))
      (ap (λ x. x.known) c.actor.view_is) (won g c),
)
