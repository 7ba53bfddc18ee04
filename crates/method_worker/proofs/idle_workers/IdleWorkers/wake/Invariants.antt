use Rattle.std.proofs.Common.{◌≡◌}
use Rattle.method_worker.proofs.idle_workers.IdleWorkers.wake.Given as goal

abbrev pub invariant-loop : goal.invariant-loop
invariant-loop l = record {
  table : l.seat.table_id ≡ l.fn.seat.table_id;
  notes : l.seat.me ≡ l.fn.seat.me;
}
