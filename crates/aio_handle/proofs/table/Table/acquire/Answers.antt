use Rattle.std.proofs.Common.{◌≡◌, None, sym, subst, refl}
use Rattle.aio_word.specs.declared.WaitRef.{WaitRef}
use Rattle.aio_handle.specs.FreeHandles.{IsFree, HasNoneFree}
use Rattle.aio_handle.specs.Seats.{seat_known}
use Rattle.aio_handle.specs.ContractViews.{ActorView}
use Rattle.aio_handle.proofs.FreeHandles.{none-out}
use Rattle.aio_handle.proofs.table.Table.acquire.Goals as goal

pub hand_out-requires-clause-free : goal.hand_out-requires-clause-free
hand_out-requires-clause-free g c κs within = (
  subst (λ (z : ActorView). z.known.out ≡ None) c.actor.view_is
      (none-out c.actor.inside.is_out
      (seat_known c.actor.inside.seat.me.0) c.actor.invariant.2.out c.if-actor.false),
  subst (λ z. IsFree z c.args.actor.now.known c.in-Some.reference) c.requires.table.1
      c.in-Some.ensures.some.1,
)

pub returns-in-Some-clause-free : goal.returns-in-Some-clause-free
returns-in-Some-clause-free g c = (
  subst (λ (z : ActorView). z.known.out ≡ None) c.actor.view_is
      (none-out c.actor.inside.is_out
      (seat_known c.actor.inside.seat.me.0) c.actor.invariant.2.out c.if-actor.false),
  subst (λ (t : WaitRef). IsFree c.args.self.now.config c.args.actor.now.known t)
      (sym c.hand_out.ensures.token.0)
      (subst (λ z. IsFree z c.args.actor.now.known c.in-Some.reference) c.requires.table.1
      c.in-Some.ensures.some.1),
)

pub returns-in-None-clause-refused : goal.returns-in-None-clause-refused
returns-in-None-clause-refused g c = (
  (
    subst (λ (z : ActorView). z.known.out ≡ None) c.actor.view_is
        (none-out c.actor.inside.is_out
        (seat_known c.actor.inside.seat.me.0) c.actor.invariant.2.out c.if-actor.false),
    subst
        (λ z. HasNoneFree z c.args.actor.now.known) c.requires.table.1 c.in-None.ensures.none,
  ),
  refl,
)
