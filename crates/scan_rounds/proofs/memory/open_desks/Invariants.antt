use Rattle.std.proofs.Common.{◌≡◌, length, vec_capacity}
use Rattle.std.specs.List.{All}
use Rattle.scan_rounds.specs.OpenedScan.{AreStreamSettings, IsDeskFor}
use Rattle.scan_rounds.proofs.memory.open_desks.Given as goal

abbrev pub invariant-loop : goal.invariant-loop
invariant-loop g l = record {
  so_far : length l.desks.items ≡ l.counter;
  capacity : vec_capacity l.desks ≡ l.settings.backends;
  desks : All (IsDeskFor l.settings) l.desks.items;
  streams : AreStreamSettings l.settings l.streams;
}
