use Rattle.std.proofs.Common.{◌<◌, length, refl, sym, ap, ◌∙◌, arith}
use Rattle.method_ring.specs.Pending.{pending_entry}
use Rattle.method_ring.proofs.NumberedSearch.{found-at}
use Rattle.method_ring.proofs.sim_ring.SimRingRing.pick.Goals as goal

pub returns-clause-some : goal.returns-clause-some
returns-clause-some g c =
    let es = c.self.inside.entries.items in
    let x = c.index.result.now in
    let i = c.next_place-index.result.0 in
    let ok = c.self.inside.entries.ok.0 in
    let within = c.next_place-index.ensures.within in
    let count = c.len-count.ensures in
    let lt : i < length es = omega arith in (
      (λ e. found-at es i x lt (ap (λ z. pending_entry z.user es) (sym c.index.ensures)
          ∙ (ap (λ z. pending_entry x.user z.pending) c.self.view_is ∙ e))),
      refl,
    )
