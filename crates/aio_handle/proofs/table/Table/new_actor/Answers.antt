use Rattle.std.proofs.Common.{ℕ, ◌<◌, List, sym, ap, ◌∙◌, subst}
use Rattle.atomic_table.specs.Table.{Splits}
use Rattle.aio_word.specs.declared.Known.{Known}
use Rattle.aio_handle.specs.TableInvariant.{TableInvariant}
use Rattle.aio_handle.specs.Seats.{front_of, rest_of}
use Rattle.aio_handle.proofs.SeatSplitAndJoin.{first-list-splits}
use Rattle.aio_handle.proofs.NewTableMeetsInvariant.{some-handles}
use Rattle.aio_handle.proofs.table.Table.new_actor.Goals as goal

-- src/table.rt:54:19
pub split_seat-requires : goal.split_seat-requires
split_seat-requires g c =
    let t = c.self.view_is in
    let (ps, is) = c.requires.view in (
      c.requires.table ∙ sym (ap (λ x. x.table) t),
      subst (λ (z : ℕ). 0 < z) (sym c.self.invariant.1)
          (some-handles c.self.inside.config c.self.invariant.4),
      subst (λ (v : List Known). Splits
          (TableInvariant g.R.Record.label g.R.Record.aim
          (g.R.Record.fits g.W.World.told g.W.World.relations) c.self.inside.inner.shared.key)
          c.args.seat.now.id v (rest_of v) (front_of v)) (sym (ap (λ x. x.0) is))
          (first-list-splits g.R.Record.label g.R.Record.aim
          (g.R.Record.fits g.W.World.told g.W.World.relations) c.self.inside.inner.shared.key
          c.args.seat.now.id _ ps),
    )
