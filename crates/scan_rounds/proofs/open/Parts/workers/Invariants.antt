use Rattle.std.proofs.Common.{◌≡◌, ◌≤◌, length, vec_capacity}
use Rattle.scan_rounds.specs.OpenedScan.{GivesWorkers}
use Rattle.scan_rounds.proofs.open.Parts.workers.Given as goal

abbrev pub invariant-loop : goal.invariant-loop
invariant-loop g l = record {
  made : GivesWorkers l.fn.self l.self l.workers.items;
  so_far : length l.workers.items ≡ l.counter;
  capacity : l.count ≤ vec_capacity l.workers;
}
