use Rattle.std.proofs.Common.{arith, []}
use Rattle.std.proofs.Common.{◌≡◌, ℕ, ◌+◌, ◌<◌, refl, sym, ap, ◌∙◌, subst}
use Rattle.aio_word.specs.declared.Known.{Known}
use Rattle.aio_word.specs.Events.{handle_count}
use Rattle.aio_handle.specs.Seats.{seat_known}
use Rattle.aio_handle.specs.LifeWords.{idle_word, handed_out_word}
use Rattle.aio_handle.specs.CallEvents.{EventMade}
use Rattle.aio_handle.specs.FreeHandles.{IsFree}
use Rattle.aio_word.specs.Events.{owner, lives_ended}
use Rattle.aio_handle.proofs.OwnerSteps.{hand-out-is-allowed}
use Rattle.aio_handle.proofs.CallSteps.{event-of, hands-seated}
use Rattle.aio_handle.proofs.CacheAfterEvents.{caches-handed-out}
use Rattle.aio_handle.proofs.FreeHandles.{owner-place}
use Rattle.aio_word.specs.declared.Step.TheVariants as event
use Rattle.aio_handle.proofs.table.Table.hand_out.Goals as goal

pub swap-requires : goal.swap-requires
swap-requires g c =
    let h : ℕ = c.args.reference.handle in
    let range : h < handle_count c.self.inside.config = subst (λ z. h < handle_count z)
    (sym (ap (λ x. x.config) c.self.view_is)) c.requires.range in
    let t = subst (λ (z : Known). IsFree c.self.inside.config z c.args.reference)
    (sym (ap (λ x. x.known) c.actor.view_is))
    (subst (λ z. IsFree z c.args.actor.now.known c.args.reference)
    (sym (ap (λ x. x.config) c.self.view_is)) c.requires.free.1) in
    let key = c.self.invariant.0 in (
      (ap (λ x. x.table) c.actor.view_is ∙
          (c.requires.table.0 ∙ sym (ap (λ x. x.table) c.self.view_is))),
      subst (λ (z : ℕ). h < z) (sym c.self.invariant.1) range,
      hand-out-is-allowed _ c.actor.invariant.0.one
          (subst (λ z. h < handle_count z) (sym c.self.invariant.0) range) c.number_of-word.ensures
          (λ _. subst (λ z. (seat_known c.actor.inside.seat.me.0).number ≡ owner z h) (sym key)
          t.own) (ap (λ x. x.known.out) c.actor.view_is ∙ c.requires.free.0)
          (λ _. subst (λ z. c.args.reference.generation ≡ z.start + lives_ended h
          (seat_known c.actor.inside.seat.me.0).marks)
          (sym key) t.generation) t.undefined t.below,
    )

pub invariant_of-actor : goal.invariant_of-actor
invariant_of-actor g c =
    let md = event-of c.swap.ensures.2 refl c.args.reference.generation (λ a b x. x)
    c.number_of-word.ensures in
    let range = subst (λ z. c.args.reference.handle < handle_count z)
    (sym ((sym c.actor.invariant.0.config ∙ ap (λ x. x.known.config) c.actor.view_is)
    ∙ c.requires.table.1)) c.requires.range in
    let at = owner-place md tt c.actor.invariant.0.config range c.actor.invariant.2.own_handles_match in
    let n = c.place_of.ensures.value in (
      hands-seated c.actor.invariant.0 c.swap.ensures.2,
      c.actor.invariant.1,
      caches-handed-out md (let lt = at.0 in omega arith) c.actor.invariant.2,
    )

pub returns-clause-event : goal.returns-clause-event
returns-clause-event g c =
    subst (λ (z : Known). EventMade event.HandOut c.args.reference.handle
    (idle_word c.args.reference.generation) (handed_out_word c.args.reference.generation) [] z
    (seat_known c.swap.new.seat.me.0)) (ap (λ x. x.known) c.actor.view_is)
    (event-of c.swap.ensures.2 refl c.args.reference.generation (λ a b x. x)
    c.number_of-word.ensures)
