use Rattle.std.proofs.Common.{◌<◌, ◌+◌, ◌-◌, ◌^◌, map, sym, ap, ◌∙◌, subst}
use Rattle.aio_word.specs.declared.Config.{Config}
use Rattle.aio_word.specs.Events.{actor_count}
use Rattle.aio_word.specs.Totals.{by_backends, by_runners}
use Rattle.aio_handle.specs.ContractViews.{IsConfig, actor_known}
use Rattle.aio_handle.specs.EndStates.{EndState}
use Rattle.aio_handle.proofs.ListsOfAllActors.{end-state}
use Rattle.aio_handle.proofs.table.Table.end.Goals as goal

pub returns : goal.returns
returns g c =
    let config = c.self.invariant.0 ∙ ap (λ x. x.config) c.self.view_is in
    let v = c.close_with.ensures.values in
    let e = subst
    (λ (z : Config). EndState z (map actor_known c.args.actors.items)
    × (by_backends z (map actor_known c.args.actors.items) + by_runners z
    (map actor_known c.args.actors.items) < 2 ^ 128 - 1)) config
    (end-state g.R.Record.label g.R.Record.aim
    (g.R.Record.fits g.W.World.told g.W.World.relations) c.self.inside.inner.shared.key _
    c.join_seats-seat.result.me.0 c.args.actors.items _ _ c.join_seats-seat.ensures.lists
    (c.requires.all ∙ ap actor_count (sym config))
    (subst (λ (z : Config). IsConfig z)
    (sym c.self.invariant.0) c.self.invariant.4) c.requires.no_owner_tokens v.2) in
    record { slots = v.1; end_state = e.0; small = e.1 }
