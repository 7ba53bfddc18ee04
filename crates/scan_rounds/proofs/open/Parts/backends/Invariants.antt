use Rattle.std.proofs.Common.{◌≡◌, ◌≤◌, length, vec_capacity}
use Rattle.scan_rounds.specs.OpenedScan.{GivesBackends}
use Rattle.scan_rounds.proofs.open.Parts.backends.Given as goal

abbrev pub invariant-loop : goal.invariant-loop
invariant-loop g l = record {
  made : GivesBackends l.page_text l.fn.self l.self l.backends.items;
  so_far : length l.backends.items ≡ l.counter;
  capacity : l.count ≤ vec_capacity l.backends;
}
