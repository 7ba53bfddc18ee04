use Rattle.std.proofs.Common.{◌≡◌, length, vec_capacity}
use Rattle.scan_rounds.proofs.run_memory.open_jobs.Given as goal

abbrev pub invariant-loop : goal.invariant-loop
invariant-loop l = record {
  so_far : length l.jobs.items ≡ l.counter;
  capacity : vec_capacity l.jobs ≡ l.count;
}
