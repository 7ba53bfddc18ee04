use Rattle.std.proofs.Common.{◌≡◌, ℕ, ◌<◌, List, [], ◌∷◌, sym, ap, ◌∙◌, subst}
use Rattle.atomic_table.specs.Table.{Me, Splits}
use Rattle.aio_word.specs.declared.Config.{Config}
use Rattle.aio_word.specs.declared.Known.{Known}
use Rattle.aio_word.specs.Events.{handle_count}
use Rattle.aio_handle.specs.TableInvariant.{TableInvariant}
use Rattle.aio_handle.specs.Seats.{seat_known, front_of, rest_of, IsSeated}
use Rattle.aio_handle.specs.ContractViews.{IsConfig}
use Rattle.aio_handle.specs.OwnHandleCache.{CachesOwnHandles}
use Rattle.aio_handle.specs.ActorPairs.{StandTogether}
use Rattle.aio_handle.proofs.SeatLists.{compares, both-lists, lists-laid, one-again, other-again}
use Rattle.aio_handle.proofs.SeatSplitAndJoin.{all-lists-split, lists-join, first-list-splits}
use Rattle.aio_handle.proofs.NewTableMeetsInvariant.{some-handles}
use Rattle.aio_handle.proofs.table.Table.stand_together.Goals as goal

pub split_seat-lists-requires : goal.split_seat-lists-requires
split_seat-lists-requires g c = (
  ap (λ x. x.table) c.other.view_is ∙
      (c.requires.table.1.0 ∙ sym (ap (λ x. x.table) c.self.view_is)),
  subst (λ (z : ℕ). 0 < z) (sym c.self.invariant.1)
      (some-handles c.self.inside.config c.self.invariant.4),
  all-lists-split g.R.Record.label g.R.Record.aim
      (g.R.Record.fits g.W.World.told g.W.World.relations) _ _ _,
)

pub join_seat-requires : goal.join_seat-requires
join_seat-requires g c = (
  ap (λ x. x.table) c.one.view_is ∙
      (c.requires.table.0.0 ∙ sym (ap (λ x. x.table) c.self.view_is)),
  c.split_seat-lists.ensures.3 ∙ (ap (λ x. x.table) c.other.view_is ∙
      (c.requires.table.1.0 ∙ sym (ap (λ x. x.table) c.self.view_is))),
  ap (λ x. x.1) c.split_seat-lists.ensures.4,
  subst (λ (z : ℕ). 0 < z) (sym c.self.invariant.1)
      (some-handles c.self.inside.config c.self.invariant.4),
  lists-join g.R.Record.label g.R.Record.aim
      (g.R.Record.fits g.W.World.told g.W.World.relations) _ _ _ _ _,
)

pub load-requires : goal.load-requires
load-requires g c =
    let some = some-handles c.self.inside.config c.self.invariant.4 in (
      c.join_seat.ensures.0 ∙ (ap (λ x. x.table) c.one.view_is ∙
          (c.requires.table.0.0 ∙ sym (ap (λ x. x.table) c.self.view_is))),
      subst (λ (z : ℕ). 0 < z) (sym c.self.invariant.1) some,
      compares g.R.Record.label g.R.Record.aim
          (g.R.Record.fits g.W.World.told g.W.World.relations) _ _ _ _
          (subst (λ (z : Config). 0 < handle_count z) (sym c.self.invariant.0) some),
    )

pub split_seat-back-requires : goal.split_seat-back-requires
split_seat-back-requires g c =
    let lists : c.load.new.seat.me.0
    ≡ seat_known c.other.inside.seat.me.0 ∷ seat_known c.one.inside.seat.me.0 ∷ [] = lists-laid
    c.one.inside.seat.me c.other.inside.seat.me c.split_seat-lists.result.me
    c.join_seat.new.seat.me c.one.invariant.0.one c.other.invariant.0.one
    c.split_seat-lists.ensures.4 c.join_seat.ensures.2
    c.load.new.seat.me c.load.ensures.2.0 in (
      c.load.ensures.0 ∙ (c.join_seat.ensures.0 ∙ (ap (λ x. x.table) c.one.view_is ∙ (c.requires.table.0.0 ∙ sym (ap (λ x. x.table) c.self.view_is)))),
      subst (λ (z : ℕ). 0 < z) (sym c.self.invariant.1)
          (some-handles c.self.inside.config c.self.invariant.4),
      subst (λ (v : List Known). Splits
          (TableInvariant g.R.Record.label g.R.Record.aim
          (g.R.Record.fits g.W.World.told g.W.World.relations) c.self.inside.inner.shared.key)
          c.load.new.seat.id v (rest_of v) (front_of v)) (sym lists)
          (first-list-splits g.R.Record.label g.R.Record.aim
          (g.R.Record.fits g.W.World.told g.W.World.relations) c.self.inside.inner.shared.key
          c.load.new.seat.id (seat_known c.other.inside.seat.me.0)
          (seat_known c.one.inside.seat.me.0 ∷ [])),
    )

pub join_seat-requires-2 : goal.join_seat-requires-2
join_seat-requires-2 g c = (
  c.split_seat-lists.ensures.0 ∙ (ap (λ x. x.table) c.other.view_is ∙ (c.requires.table.1.0 ∙ sym (ap (λ x. x.table) c.self.view_is))),
  c.split_seat-back.ensures.3 ∙ (c.load.ensures.0 ∙ (c.join_seat.ensures.0 ∙ (ap (λ x. x.table) c.one.view_is ∙ (c.requires.table.0.0 ∙ sym (ap (λ x. x.table) c.self.view_is))))),
  ap (λ x. x.1) c.split_seat-back.ensures.4,
  subst (λ (z : ℕ). 0 < z) (sym c.self.invariant.1)
      (some-handles c.self.inside.config c.self.invariant.4),
  lists-join g.R.Record.label g.R.Record.aim
      (g.R.Record.fits g.W.World.told g.W.World.relations) _ _ _ _ _,
)

pub invariant_of-one : goal.invariant_of-one
invariant_of-one g c = subst (λ (z : Me _ (List Known)). IsSeated c.one.inside.config
    c.one.inside.number z × IsConfig c.one.inside.config
    × CachesOwnHandles c.one.inside.config c.one.inside.own.items c.one.inside.turn
    c.one.inside.is_out
    c.one.inside.claims (seat_known z.0))
    (sym (one-again c.one.inside.seat.me c.other.inside.seat.me c.split_seat-lists.result.me
    c.join_seat.new.seat.me c.one.invariant.0.one c.other.invariant.0.one
    c.split_seat-lists.ensures.4 c.join_seat.ensures.2
    c.load.new.seat.me c.load.ensures.2.0 c.split_seat-back.new.seat.me
    c.split_seat-back.ensures.2)) c.one.invariant

pub invariant_of-other : goal.invariant_of-other
invariant_of-other g c = subst (λ (z : Me _ (List Known)). IsSeated c.other.inside.config
    c.other.inside.number z × IsConfig c.other.inside.config
    × CachesOwnHandles c.other.inside.config c.other.inside.own.items c.other.inside.turn
    c.other.inside.is_out c.other.inside.claims (seat_known z.0))
    (sym (other-again c.one.inside.seat.me c.other.inside.seat.me c.split_seat-lists.result.me
    c.join_seat.new.seat.me c.one.invariant.0.one c.other.invariant.0.one
    c.split_seat-lists.ensures.4 c.join_seat.ensures.2
    c.load.new.seat.me c.load.ensures.2.0 c.split_seat-back.result.me c.split_seat-lists.new.seat.me
    c.join_seat-2.new.seat.me c.split_seat-back.ensures.4 c.split_seat-lists.ensures.2
    c.join_seat-2.ensures.2)) c.other.invariant

pub returns-clause-same : goal.returns-clause-same
returns-clause-same g c =
    let one = one-again c.one.inside.seat.me c.other.inside.seat.me c.split_seat-lists.result.me
    c.join_seat.new.seat.me c.one.invariant.0.one c.other.invariant.0.one
    c.split_seat-lists.ensures.4 c.join_seat.ensures.2
    c.load.new.seat.me c.load.ensures.2.0 c.split_seat-back.new.seat.me
    c.split_seat-back.ensures.2 in
    let other = other-again c.one.inside.seat.me c.other.inside.seat.me c.split_seat-lists.result.me
    c.join_seat.new.seat.me c.one.invariant.0.one c.other.invariant.0.one
    c.split_seat-lists.ensures.4 c.join_seat.ensures.2
    c.load.new.seat.me c.load.ensures.2.0 c.split_seat-back.result.me c.split_seat-lists.new.seat.me
    c.join_seat-2.new.seat.me c.split_seat-back.ensures.4 c.split_seat-lists.ensures.2
    c.join_seat-2.ensures.2 in (
      (λ k. record {
        table = (c.split_seat-back.ensures.0 ∙ (c.load.ensures.0 ∙ c.join_seat.ensures.0)) k;
        known = seat_known (one k).0;
      }) ∙ c.one.view_is,
      (λ k. record {
        table = (c.join_seat-2.ensures.0 ∙ c.split_seat-lists.ensures.0) k;
        known = seat_known (other k).0;
      }) ∙ c.other.view_is,
    )

pub returns-clause-together : goal.returns-clause-together
returns-clause-together g c =
    let one = one-again c.one.inside.seat.me c.other.inside.seat.me c.split_seat-lists.result.me
    c.join_seat.new.seat.me c.one.invariant.0.one c.other.invariant.0.one
    c.split_seat-lists.ensures.4 c.join_seat.ensures.2
    c.load.new.seat.me c.load.ensures.2.0 c.split_seat-back.new.seat.me
    c.split_seat-back.ensures.2 in
    let other = other-again c.one.inside.seat.me c.other.inside.seat.me c.split_seat-lists.result.me
    c.join_seat.new.seat.me c.one.invariant.0.one c.other.invariant.0.one
    c.split_seat-lists.ensures.4 c.join_seat.ensures.2
    c.load.new.seat.me c.load.ensures.2.0 c.split_seat-back.result.me c.split_seat-lists.new.seat.me
    c.join_seat-2.new.seat.me c.split_seat-back.ensures.4 c.split_seat-lists.ensures.2
    c.join_seat-2.ensures.2 in
    let config = ap (λ x. x.known.config) c.one.view_is ∙ c.requires.table.0.1 in
    subst (λ (z : Config × Known × Known). StandTogether z.0 z.1 z.2)
    (λ k. (config k, seat_known (sym one k).0, seat_known (sym other k).0))
    (c.load.ensures.2.1 (seat_known c.one.inside.seat.me.0) (seat_known c.other.inside.seat.me.0)
    (both-lists c.one.inside.seat.me c.other.inside.seat.me c.split_seat-lists.result.me
    c.join_seat.new.seat.me c.one.invariant.0.one c.other.invariant.0.one
    c.split_seat-lists.ensures.4 c.join_seat.ensures.2))
