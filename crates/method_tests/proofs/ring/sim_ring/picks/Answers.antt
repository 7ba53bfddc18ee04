use Rattle.std.proofs.Common.{ℕ, refl, sym, ap, ◌∙◌, subst}
use Rattle.method_tests.specs.PendingReads.{AreReadInto}
use Rattle.method_tests.proofs.ring.sim_ring.picks.Goals as goal

pub submit_all-requires-clause-none : goal.submit_all-requires-clause-none
submit_all-requires-clause-none g c = ap (λ r. r.pending) c.in-Ok.ensures.ok

pub loop-init : goal.loop-init
loop-init g c = record { one = refl; ones = c.submit_all.ensures }

pub loop-preserved : goal.loop-preserved
loop-preserved g c =
    let i = c.loop.invariant in
    record {
      one = c.complete_next.ensures.length ∙ i.one;
      ones = subst (λ (n : ℕ). AreReadInto n c.complete_next.new.ring.pending) i.one
          c.complete_next.ensures.pages;
    }

pub complete_next-requires : goal.complete_next-requires
complete_next-requires g c =
    let i = c.loop.invariant in
    record { pages = subst (λ (n : ℕ). AreReadInto n c.loop.ring.pending) (sym i.one) i.ones }
