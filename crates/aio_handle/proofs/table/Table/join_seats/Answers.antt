use Rattle.std.proofs.Common.{ℕ, ◌<◌, List, [], ◌∷◌, ◌++◌, sym, ap, ◌∙◌, subst}
use Rattle.aio_word.specs.declared.Known.{Known}
use Rattle.aio_handle.specs.ContractViews.{IsActorOf}
use Rattle.aio_handle.proofs.ListsOfAllActors.{last-of, front-of, more-lists}
use Rattle.aio_handle.proofs.SeatSplitAndJoin.{empty-seat-enters, all-lists-split, lists-join}
use Rattle.aio_handle.proofs.NewTableMeetsInvariant.{some-handles}
use Rattle.aio_handle.proofs.table.Table.join_seats.Goals as goal

pub load_new_seat-requires : goal.load_new_seat-requires
load_new_seat-requires g c = (
  subst (λ (z : ℕ). 0 < z) (sym c.self.invariant.1)
      (some-handles c.self.inside.config c.self.invariant.4),
  empty-seat-enters g.R.Record.label g.R.Record.aim
      (g.R.Record.fits g.W.World.told g.W.World.relations) _ _ 0,
)

pub split_seat-lists-requires : goal.split_seat-lists-requires
split_seat-lists-requires g c = (
  ap (λ x. x.table) c.actor.view_is ∙
      ((last-of (IsActorOf c.args.self.now) c.pop.new.self.items c.loop-actor.actors.items
      c.in-Some.actor c.in-Some.ensures.items c.loop-actor.invariant.of_table).0 ∙ sym
      (ap (λ x. x.table) c.self.view_is)),
  subst (λ (z : ℕ). 0 < z) (sym c.self.invariant.1)
      (some-handles c.self.inside.config c.self.invariant.4),
  all-lists-split g.R.Record.label g.R.Record.aim
      (g.R.Record.fits g.W.World.told g.W.World.relations) _ _ _,
)

pub join_seat-requires : goal.join_seat-requires
join_seat-requires g c = (
  c.loop-actor.invariant.table ∙ sym (ap (λ x. x.table) c.self.view_is),
  c.split_seat-lists.ensures.3 ∙
      (ap (λ x. x.table) c.actor.view_is ∙
      ((last-of (IsActorOf c.args.self.now) c.pop.new.self.items c.loop-actor.actors.items
      c.in-Some.actor c.in-Some.ensures.items c.loop-actor.invariant.of_table).0 ∙ sym
      (ap (λ x. x.table) c.self.view_is))),
  ap (λ x. x.1) c.split_seat-lists.ensures.4,
  subst (λ (z : ℕ). 0 < z) (sym c.self.invariant.1)
      (some-handles c.self.inside.config c.self.invariant.4),
  lists-join g.R.Record.label g.R.Record.aim
      (g.R.Record.fits g.W.World.told g.W.World.relations) _ _ _ _ _,
)

pub loop-actor-preserved : goal.loop-actor-preserved
loop-actor-preserved g c = record {
  table = c.join_seat.ensures.0 ∙ c.loop-actor.invariant.table;
  lists = more-lists c.pop.new.self.items c.loop-actor.actors.items c.in-Some.actor
      c.loop-actor.all.me.0 c.join_seat.new.seat.me.0 _ c.in-Some.ensures.items
      c.loop-actor.invariant.lists
      (ap (λ x. x.0) c.join_seat.ensures.2 ∙ ap (λ (z : List Known). z ++ c.loop-actor.all.me.0)
      (ap (λ x. x.0) c.split_seat-lists.ensures.4 ∙
      (c.actor.invariant.0.one ∙ ap (λ (p : Known). p ∷ [])
      (ap (λ x. x.known) c.actor.view_is))));
  of_table = front-of
      (IsActorOf c.args.self.now) c.pop.new.self.items c.loop-actor.actors.items c.in-Some.actor
      c.in-Some.ensures.items c.loop-actor.invariant.of_table;
}
