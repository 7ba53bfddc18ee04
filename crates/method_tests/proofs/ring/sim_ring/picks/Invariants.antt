use Rattle.std.proofs.Common.{◌≡◌, length}
use Rattle.method_tests.specs.PendingReads.{AreReadInto}
use Rattle.method_tests.proofs.ring.sim_ring.picks.Given as goal

abbrev pub invariant-loop : goal.invariant-loop
invariant-loop g l = record {
  one : length l.page ≡ 1;
  ones : AreReadInto 1 l.ring.pending;
}
