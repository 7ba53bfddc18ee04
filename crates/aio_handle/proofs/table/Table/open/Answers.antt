use Rattle.std.proofs.Common.{rules, ℕ, ◌*◌, List, replicate, sym, ◌∙◌, subst, None}
use Rattle.atomic_table.specs.Table.{opening}
use Rattle.aio_word.specs.declared.Config.{Config}
use Rattle.aio_handle.specs.TableInvariant.{TableInvariant, initial_lists}
use Rattle.aio_handle.specs.ContractViews.{TableView, ActorView, AreNewActors}
use Rattle.aio_handle.proofs.NewTableMeetsInvariant.{new-ruled, new-push}
use Rattle.aio_handle.proofs.InitialLists.{next-view, after-deal}
use Rattle.aio_handle.proofs.table.Table.open.Goals as goal

pub vacant-requires : goal.vacant-requires
vacant-requires g c =
    let config : Config =
    record {
      backends = c.args.backends;
      per_backend = c.args.per_backend;
      runners =
          c.args.runners;
      start = c.args.start;
    } in
    subst (λ (ws : List ℕ). TableInvariant g.R.Record.label g.R.Record.aim
    (g.R.Record.fits g.W.World.told g.W.World.relations) config
    (opening ws (replicate (c.args.backends * c.args.per_backend) None) (initial_lists config)))
    (sym (c.as_slice.ensures.value ∙ c.in_ok-words.ensures.items_if_clones_equal (λ y e. e)))
    (new-ruled g.R.Record.label g.R.Record.aim
    (g.R.Record.fits g.W.World.told g.W.World.relations) config c.requires.start)

-- src/table.rt:76:34
pub new_actor-requires-clause-view : goal.new_actor-requires-clause-view
new_actor-requires-clause-view g c κs within = (
  _,
  next-view
      record {
        backends = c.args.backends;
        per_backend = c.args.per_backend;
        runners = c.args.runners;
        start = c.args.start;
      } c.loop-n.n _ _ c.loop-n-test.true c.loop-n.invariant.view,
)

-- src/table.rt:75:9
pub loop-n-preserved : goal.loop-n-preserved
loop-n-preserved g c =
    let t : TableView =
    record {
      table = c.in_ok-inner.inner.shared.table_id;
      config =
          record {
            backends = c.args.backends;
            per_backend = c.args.per_backend;
            runners =
                c.args.runners;
            start = c.args.start;
          };
    } in record {
      seat = c.in_ok-actor.ensures.seat.0 ∙ c.loop-n.invariant.seat;
      view = after-deal
          record {
            backends = c.args.backends;
            per_backend = c.args.per_backend;
            runners =
                c.args.runners;
            start =
                c.args.start;
          } c.loop-n.n _ _ _ c.loop-n-test.true c.loop-n.invariant.view
          c.in_ok-actor.ensures.seat.1;
      many = search rules;
      room = search rules;
      same = search rules;
      new = subst (λ (xs : List ActorView). AreNewActors t 0 xs) (sym c.push_reserved.ensures.items)
          (new-push t c.loop-n.n c.loop-n.actors.items c.in_ok-actor.actor c.loop-n.invariant.many
          c.loop-n.invariant.new c.in_ok-actor.ensures.actor);
    }
