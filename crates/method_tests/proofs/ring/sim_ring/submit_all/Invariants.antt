use Rattle.std.proofs.Common.{◌≡◌, ◌<◌, length}
use Rattle.aio_word.specs.Stands.{IsIn}
use Rattle.method_ring.specs.declared.ring.Entry.{Entry}
use Rattle.method_tests.specs.PendingReads.{AreReadInto}
use Rattle.method_tests.proofs.ring.sim_ring.submit_all.Given as goal

abbrev pub invariant-loop-number : goal.invariant-loop-number
invariant-loop-number g l = record {
  many : length (g.G.Ring.pending l.ring) ≡ l.number;
  below : (e : Entry) → IsIn e (g.G.Ring.pending l.ring) → e.user < l.number;
  ones : AreReadInto 1 (g.G.Ring.pending l.ring);
  relation : 0 < g.G.Ring.relations l.ring;
}
