use Rattle.std.proofs.Common.{◌≡◌, ◌-◌, ◌≤◌, [], length, vec_capacity}
use Rattle.aio_handle.specs.TableInvariant.{initial_known_from}
use Rattle.aio_handle.specs.ContractViews.{AreNewActors}
use Rattle.aio_handle.proofs.table.Table.open.Given as goal

abbrev pub invariant-loop-n : goal.invariant-loop-n
invariant-loop-n g l = record {
  seat : l.seat.table_id ≡ l.table-inside.inner.shared.table_id;
  view : l.seat.me ≡ (initial_known_from l.table-inside.config l.n (l.number - l.n), []);
  many : length l.actors.items ≡ l.n;
  room : l.number ≤ vec_capacity l.actors;
  same : l.table-inside ≡ l.initial.table-inside;
  new : AreNewActors record {
    table = l.table-inside.inner.shared.table_id;
    config =
        l.table-inside.config;
  } 0 l.actors.items;
}
