use Rattle.std.proofs.Common.{ℕ, List, length, ap, ◌∙◌, sym, subst}
use Rattle.method_ring.specs.declared.ring.Entry.{Entry}
use Rattle.method_ring.specs.Pending.{pending_entry, without_entry, IsFilledBy}
use Rattle.method_tests.specs.PendingReads.{AreReadInto}
use Rattle.method_tests.proofs.PendingReads.{is-filled, are-left}
use Rattle.method_tests.proofs.ring.sim_ring.complete_next.Goals as goal

pub fill-requires-clause-entry : goal.fill-requires-clause-entry
fill-requires-clause-entry g c =
    let user : ℕ = c.in_ok-user.user in
    let count = length c.args.pages.now in
    subst (λ (es : List Entry). IsFilledBy (pending_entry user es) count)
    (sym c.pick.ensures.pending)
    (is-filled user count (g.G.Ring.pending c.args.ring.now) c.requires.pages
    c.in_ok-user.ensures.some.0)

pub returns-in-Ok-clause-pages : goal.returns-in-Ok-clause-pages
returns-in-Ok-clause-pages g c =
    let user : ℕ = c.in_ok-user.user in
    let count = length c.args.pages.now in
    subst (λ (es : List Entry). AreReadInto count es)
    (sym (c.fill.ensures.pending ∙ ap (without_entry user) c.pick.ensures.pending))
    (are-left user count (g.G.Ring.pending c.args.ring.now) c.requires.pages)

pub returns-in-Err-clause-pages : goal.returns-in-Err-clause-pages
returns-in-Err-clause-pages g c =
    let user : ℕ = c.in_ok-user.user in
    let count = length c.args.pages.now in
    subst (λ (es : List Entry). AreReadInto count es)
    (sym (c.fill.ensures.pending ∙ ap (without_entry user) c.pick.ensures.pending))
    (are-left user count (g.G.Ring.pending c.args.ring.now) c.requires.pages)
