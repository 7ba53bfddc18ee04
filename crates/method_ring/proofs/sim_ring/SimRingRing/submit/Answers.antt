use Rattle.std.proofs.Common.{◌≡◌, ℕ, ◌≤◌, ◌<◌, List, sym, subst, ⊎_elim}
use Rattle.method_ring.specs.declared.ring.Entry.{Entry}
use Rattle.method_ring.specs.Pending.{entry}
use Rattle.method_ring.specs.SimRing.{IsValidEntry}
use Rattle.aio_word.specs.Stands.{IsIn}
use Rattle.method_ring.proofs.NumberedLookup.{in-pushed}
use Rattle.method_ring.proofs.sim_ring.SimRingRing.submit.Goals as goal

pub invariant_of-self : goal.invariant_of-self
invariant_of-self g c =
    let new : Entry = entry c.args.user c.args.relation c.args.first c.args.count in
    let n = g.D.Disk.relations c.self.inside.disk in
    let fits : IsValidEntry n new = record {
      relation = subst (λ z. c.args.relation < g.D.Disk.relations z.disk) (sym c.self.view_is)
          c.requires.relation;
      at_least_one = c.requires.count.0;
      at_most_128 = c.requires.count.1;
    } in (
      (λ e i. ⊎_elim (λ old. c.self.invariant.0 e old)
          (λ (same : new ≡ e). subst (λ (z : Entry). IsValidEntry n z) same fits)
          (in-pushed c.self.inside.entries.items new e
          (subst (λ (l : List Entry). IsIn e l) c.push_reserved.ensures.items i))),
      subst (λ (k : ℕ). 8 ≤ k) (sym c.push_reserved.ensures.capacity) c.self.invariant.1,
      c.self.invariant.2,
    )
