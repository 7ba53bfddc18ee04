use Rattle.std.proofs.Common.{◌≡◌, ◌++◌, map, vec_len}
use Rattle.std.specs.List.{All}
use Rattle.aio_handle.specs.ContractViews.{IsActorOf, actor_known}
use Rattle.aio_handle.proofs.table.Table.join_seats.Given as goal

abbrev pub invariant-loop-actor : goal.invariant-loop-actor
invariant-loop-actor g l = record {
  table : l.all.table_id ≡ l.self.table;
  lists : map actor_known l.actors.items ++ l.all.me.0 ≡ map actor_known l.initial.actors.items;
  of_table : All (IsActorOf l.self) l.actors.items;
}

abbrev pub decreases-loop-actor : goal.decreases-loop-actor
decreases-loop-actor g l = vec_len l.actors
