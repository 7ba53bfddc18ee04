use Rattle.std.proofs.Common.{◌≡◌, ℕ, ◌+◌, ◌<◌, ◌==◌, List, [], ◌∷◌, ◌++◌, length, refl, sym, ap}
use Rattle.std.proofs.Common.{◌∙◌, subst, arith, ⊎_elim, inl, inr, Some, None, Bool, false, cond}
use Rattle.std.proofs.lemmas.Bool.Decides.{nat_tests}
use Rattle.std.proofs.lemmas.List.{length-append}
use Rattle.aio_word.specs.Stands.{IsIn}
use Rattle.method_ring.specs.declared.ring.Entry.{Entry}
use Rattle.method_ring.specs.Pending.{entry, pending_entry}
use Rattle.method_tests.specs.PendingReads.{AreReadInto}
use Rattle.method_ring.proofs.NumberedLookup.{in-pushed}
use Rattle.method_tests.proofs.PendingReads.{are-pushed}
use Rattle.method_tests.proofs.ring.sim_ring.submit_all.Goals as goal

not-equal : (a b : ℕ) → a < b → (a == b) ≡ false
not-equal a b lt = grind (arith, nat_tests)

-- no entry has a number that all are below
none-below : (n : ℕ) (es : List Entry) → ((e : Entry) → IsIn e es → e.user < n)
    → pending_entry n es ≡ None
none-below n [] below = refl
none-below n (x ∷ es) below = ap (λ (b : Bool). cond b (Some x) (pending_entry n es))
    (not-equal x.user n (below x (inl refl))) ∙ none-below n es (λ e i. below e (inr i))

-- one more is submitted under the next number
next-below : (n : ℕ) (es : List Entry) (x : Entry) → x.user ≡ n
    → ((e : Entry) → IsIn e es → e.user < n)
    → (e : Entry) → IsIn e (es ++ x ∷ []) → e.user < n + 1
next-below n es x is below e i = ⊎_elim (λ old. let lt = below e old in omega arith)
    (λ (same : x ≡ e). let user : x.user ≡ e.user = ap (λ (z : Entry). z.user) same in omega arith)
    (in-pushed es x e i)

pub loop-number-init : goal.loop-number-init
loop-number-init g c =
    let none = c.requires.none in record {
      many = ap (λ (es : List Entry). length es) none;
      below = subst (λ (es : List Entry). (e : Entry) → IsIn e es → e.user < 0) (sym none)
          (λ e i. absurd i);
      ones = subst (λ (es : List Entry). AreReadInto 1 es) (sym none) (λ e i. absurd i);
      relation = c.requires.relation;
    }

pub submit-requires-clause-new : goal.submit-requires-clause-new
submit-requires-clause-new g c =
    none-below c.loop-number.number (g.G.Ring.pending c.loop-number.ring)
    c.loop-number.invariant.below

pub loop-number-preserved : goal.loop-number-preserved
loop-number-preserved g c =
    let i = c.loop-number.invariant in
    let n = c.loop-number.number in
    let es = g.G.Ring.pending c.loop-number.ring in
    let x = entry n 0 n 1 in
    let is = c.submit.ensures.pending in
    let both = length-append es (x ∷ []) in record {
      many = ap (λ (ys : List Entry). length ys) is ∙ omega (arith, both, i.many);
      below = subst (λ (ys : List Entry). (e : Entry) → IsIn e ys → e.user < n + 1) (sym is)
          (next-below n es x refl i.below);
      ones = subst (λ (ys : List Entry). AreReadInto 1 ys) (sym is)
          (are-pushed 1 es x i.ones refl);
      relation = subst (λ (m : ℕ). 0 < m) (sym c.submit.ensures.told.1) i.relation;
    }
