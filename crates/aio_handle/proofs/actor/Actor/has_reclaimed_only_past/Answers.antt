use Rattle.std.proofs.Common.{sym, subst}
use Rattle.aio_word.specs.declared.Config.{Config}
use Rattle.aio_handle.specs.OwnHandleCache.{OnlyPastReclaimed}
use Rattle.aio_handle.specs.Seats.{seat_known}
use Rattle.aio_handle.specs.ContractViews.{ActorView}
use Rattle.aio_handle.proofs.actor.Actor.has_reclaimed_only_past.Goals as goal

pub returns : goal.returns
returns g c = subst (λ (z : ActorView). OnlyPastReclaimed z.known.config z.known) c.self.view_is
    (subst (λ (z : Config). OnlyPastReclaimed z (seat_known c.self.inside.seat.me.0))
    (sym c.self.invariant.0.config) c.self.invariant.2.only_past_reclaimed)
