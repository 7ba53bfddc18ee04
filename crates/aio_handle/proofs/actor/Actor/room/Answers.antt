use Rattle.std.proofs.Common.{ℕ, sym, subst}
use Rattle.aio_word.specs.declared.Config.{Config}
use Rattle.aio_handle.specs.Seats.{seat_known}
use Rattle.aio_handle.specs.ContractViews.{ActorView}
use Rattle.aio_handle.specs.FreeHandles.{IsRoom}
use Rattle.aio_handle.specs.OwnHandles.{HasRoom}
use Rattle.aio_handle.proofs.FreeHandles.{room-told}
use Rattle.aio_handle.proofs.actor.Actor.room.Goals as goal

pub returns : goal.returns
returns g c =
    let room : ℕ = c.room_of.result in
    let of_own = subst (λ xs. HasRoom xs room) c.as_slice.ensures.value c.room_of.ensures in
    subst (λ (z : ActorView). IsRoom z.known.config z.known room) c.self.view_is
    (subst (λ (z : Config). IsRoom z (seat_known c.self.inside.seat.me.0) room)
    (sym c.self.invariant.0.config)
    (room-told c.self.inside.config c.self.inside.own.items _ room
    c.self.invariant.1.per_backend.0 c.self.invariant.2.own_handles_match of_own))
