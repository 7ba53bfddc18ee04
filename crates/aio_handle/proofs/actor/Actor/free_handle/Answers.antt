use Rattle.std.proofs.Common.{ℕ, ◌≡◌, ◌<◌, ◌+◌, ◌*◌, length, sym, subst}
use Rattle.aio_word.specs.declared.Config.{Config}
use Rattle.aio_word.specs.declared.WaitRef.{WaitRef}
use Rattle.aio_word.specs.Events.{wait_ref, handle_count}
use Rattle.aio_handle.specs.ContractViews.{ActorView}
use Rattle.aio_handle.specs.Seats.{seat_known}
use Rattle.aio_handle.specs.FreeHandles.{IsFree, HasNoneFree}
use Rattle.aio_handle.specs.OwnHandles.{own_at, IsFreeHandle}
use Rattle.aio_handle.proofs.FreeHandles.{tells-free, none-told}
use Rattle.aio_handle.proofs.actor.Actor.free_handle.Goals as goal

pub returns-in_default-clause-none : goal.returns-in_default-clause-none
returns-in_default-clause-none g c = subst
    (λ (z : ActorView). HasNoneFree z.known.config z.known) c.self.view_is
    (subst (λ (z : Config). HasNoneFree z (seat_known c.self.inside.seat.me.0))
    (sym c.self.invariant.0.config)
    (none-told c.self.inside.config c.self.inside.own.items
    (seat_known c.self.inside.seat.me.0) c.self.invariant.2.own_handles_match c.self.invariant.2.only_past_reclaimed
    (subst (λ xs. (k : ℕ) → k < length xs → IsFreeHandle (own_at xs k)
    → ⊥) c.as_slice-own.ensures.value c.in_default.ensures.none)))

pub returns-clause-some : goal.returns-clause-some
returns-clause-some g c =
    let own = c.as_slice-own.ensures.value in
    let got = subst
    (λ xs. (c.in-Some.place < length xs)
    × IsFreeHandle (own_at xs c.in-Some.place)) own c.in-Some.ensures.some in
    let number : (seat_known c.self.inside.seat.me.0).number ≡ c.self.inside.number =
    c.self.invariant.0.number in
    let backend = subst (λ (z : Config). (seat_known c.self.inside.seat.me.0).number < z.backends)
    c.self.invariant.0.config
    (subst (λ (z : ActorView). z.known.number < z.known.config.backends)
    (sym c.self.view_is) c.requires.backend) in
    let free = tells-free c.self.inside.config c.self.inside.own.items
    (seat_known c.self.inside.seat.me.0) c.in-Some.place c.self.invariant.2.own_handles_match got.0 backend got.1
    in
    let t : ℕ → ℕ → WaitRef =
    λ n k. wait_ref (n * c.self.inside.config.per_backend + c.in-Some.place) k in
    subst (λ (z : ActorView).
    ((t c.self.inside.number
    (own_at c.as_slice-own.result.now c.in-Some.place).generation).handle
    < handle_count z.known.config)
    × IsFree z.known.config z.known
    (t c.self.inside.number
    (own_at c.as_slice-own.result.now c.in-Some.place).generation)) c.self.view_is
    (subst (λ (z : Config × WaitRef). (z.1.handle < handle_count z.0)
    × IsFree z.0 (seat_known c.self.inside.seat.me.0) z.1)
    (λ k. (
      sym c.self.invariant.0.config k,
      t (number k) (own_at (sym own k) c.in-Some.place).generation,
    )) free)
