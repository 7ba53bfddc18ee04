use Rattle.std.proofs.Common.{◌≡◌, ◌≢◌, ◌<◌, ◌≤◌, ℕ, List, length, take, drop, get_or, ◌++◌, ◌+◌}
use Rattle.std.proofs.Common.{refl, sym, ap, ◌∙◌, arith}
use Rattle.std.proofs.lemmas.List.{get_or_default}
use Rattle.method_ring.proofs.NumberedSearch.{first-later, others-later, first-here, others-here}
use Rattle.method_ring.proofs.NumberedSearch.{first-end, others-end}
use Rattle.method_ring.proofs.listed.take_out.Goals as goal

same-read : {A : Type 0} (xs : List A) (i : ℕ) (a b : A) → i < length xs → a ≡ get_or xs i a
    → b ≡ get_or xs i b → a ≡ b
same-read xs i a b lt e f = e ∙ (get_or_default xs i a b lt ∙ sym f)

pub loop-index-init : goal.loop-index-init
loop-index-init g c = record { same = refl; first = refl; others = refl }

pub loop-index-preserved : goal.loop-index-preserved
loop-index-preserved g c =
    let xs = c.args.items.now.items in
    let same = c.loop-index.invariant.same in
    let ok = c.args.items.now.ok.0 in
    let len = c.len-index-end.ensures in
    let below = c.loop-index-test.true in
    let lt : c.loop-index.index < length xs = omega arith in
    let x = c.index.result.now in
    let is : x ≡ get_or xs c.loop-index.index x =
    c.index.ensures ∙ ap (λ v. get_or v.items c.loop-index.index x) same in
    let other : g.T.Numbered.number x ≢ c.args.user =
    λ e. c.if-user.false (c.user.ensures ∙ e) in
    record {
      same = same;
      first = c.loop-index.invariant.first
          ∙ first-later g.T.Numbered.number c.args.user xs c.loop-index.index x lt is other;
      others = c.loop-index.invariant.others
          ∙ others-later g.T.Numbered.number c.args.user xs c.loop-index.index x lt is other;
    }

pub returns-then-user-clause-result_is : goal.returns-then-user-clause-result_is
returns-then-user-clause-result_is g c =
    let xs = c.args.items.now.items in
    let same = c.loop-index.invariant.same in
    let ok = c.args.items.now.ok.0 in
    let len = c.len-index-end.ensures in
    let below = c.loop-index-test.true in
    let lt : c.loop-index.index < length xs = omega arith in
    let x = c.remove.result in
    let is : x ≡ get_or xs c.loop-index.index x =
    c.remove.ensures.value ∙ ap (λ v. get_or v.items c.loop-index.index x) same in
    let y = c.index.result.now in
    let read : y ≡ get_or xs c.loop-index.index y =
    c.index.ensures ∙ ap (λ v. get_or v.items c.loop-index.index y) same in
    let number : g.T.Numbered.number x ≡ c.args.user =
    ap (λ z. g.T.Numbered.number z) (same-read xs c.loop-index.index x y lt is read)
    ∙ (sym c.user.ensures ∙ c.if-user.true) in
    sym (c.loop-index.invariant.first
    ∙ first-here g.T.Numbered.number c.args.user xs c.loop-index.index x lt is number)

pub returns-then-user-clause-others : goal.returns-then-user-clause-others
returns-then-user-clause-others g c =
    let xs = c.args.items.now.items in
    let same = c.loop-index.invariant.same in
    let ok = c.args.items.now.ok.0 in
    let len = c.len-index-end.ensures in
    let below = c.loop-index-test.true in
    let lt : c.loop-index.index < length xs = omega arith in
    let y = c.index.result.now in
    let read : y ≡ get_or xs c.loop-index.index y =
    c.index.ensures ∙ ap (λ v. get_or v.items c.loop-index.index y) same in
    let number : g.T.Numbered.number y ≡ c.args.user = sym c.user.ensures ∙ c.if-user.true in
    c.remove.ensures.by_index.2
    ∙ (ap (λ v. take c.loop-index.index v.items ++ drop (c.loop-index.index + 1) v.items) same
    ∙ sym (c.loop-index.invariant.others ∙ ap (λ ys. take c.loop-index.index xs ++ ys)
    (others-here g.T.Numbered.number c.args.user xs c.loop-index.index y lt read number)))

pub returns-clause-result_is : goal.returns-clause-result_is
returns-clause-result_is g c =
    let xs = c.args.items.now.items in
    let ok = c.args.items.now.ok.0 in
    let len = c.len-index-end.ensures in
    let end = c.loop-index-test.false in
    let le : length xs ≤ c.loop-index.index = omega arith in
    sym (c.loop-index.invariant.first
    ∙ first-end g.T.Numbered.number c.args.user xs c.loop-index.index le)

pub returns-clause-others : goal.returns-clause-others
returns-clause-others g c =
    let xs = c.args.items.now.items in
    let ok = c.args.items.now.ok.0 in
    let len = c.len-index-end.ensures in
    let end = c.loop-index-test.false in
    let le : length xs ≤ c.loop-index.index = omega arith in
    ap (λ v. v.items) c.loop-index.invariant.same ∙ sym (c.loop-index.invariant.others
    ∙ others-end g.T.Numbered.number c.args.user xs c.loop-index.index le)
