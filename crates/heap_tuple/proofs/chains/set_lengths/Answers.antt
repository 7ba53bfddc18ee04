use Rattle.std.proofs.Common.{refl}
use Rattle.std.proofs.Common.{◌≡◌, ◌≢◌, ℕ, ◌<◌, set, get_or, take, length, sym, ◌∙◌, arith, inl}
use Rattle.std.proofs.Common.{inr, length-set, get_or-set_same, get_or-set_other, eq-eqb}
use Rattle.std.specs.Prelude.{◌==◌}
use Rattle.std.proofs.lemmas.Bool.{or_cases, or_parts, eqb-true, both_ways, cases_eq}
use Rattle.heap_tuple.specs.Chains.{contains}
use Rattle.heap_tuple.proofs.DistinctItems.{has_more, has_at}
use Rattle.heap_tuple.proofs.chains.set_lengths.Goals as goal

pub bounds-lengths-from : goal.bounds-lengths-from
bounds-lengths-from c =
    let below = c.requires.inside (get_or c.args.items.now c.loop-item.item-index 0)
    (has_at c.args.items.now c.loop-item.item-index _ (omega (arith, c.loop-item-test.true)) refl)
    in
    omega (arith, below, c.from.ensures, c.loop-item.invariant.size)

pub loop-item-preserved : goal.loop-item-preserved
loop-item-preserved c =
    let k = c.loop-item.item-index in
    let x = get_or c.args.items.now k 0 in
    let below : k < length c.args.items.now = omega (arith, c.loop-item-test.true) in
    let room = c.requires.inside x (has_at c.args.items.now k x below refl) in
    let here : c.from.result ≡ x = c.from.ensures in
    let more = has_more c.args.items.now k in
    let is = c.loop-item.invariant in
    let as_x : (y : ℕ) → y ≡ x → get_or (set c.loop-item.lengths c.from.result c.args.chain) y 0
    ≡ c.args.chain =
    λ y same. rw same (rw here
    (get_or-set_same c.loop-item.lengths x c.args.chain 0 (omega (arith, room, is.size)))) in
    let not_x : (y : ℕ) → (y ≢ x) → get_or (set c.loop-item.lengths c.from.result c.args.chain) y 0
    ≡ get_or c.loop-item.lengths y 0 =
    λ y other. rw here (get_or-set_other c.loop-item.lengths x y c.args.chain 0 other) in
    record {
      size = length-set c.loop-item.lengths c.from.result c.args.chain ∙ is.size;
      there = λ y there. elim (cases_eq y x) [
        | inl same ↦ as_x y same
        | inr other ↦ not_x y other
            ∙ is.there y (elim (or_cases (contains (take k c.args.items.now) y) (y == x)
            (sym (more y below) ∙ there)) [
              | inl before ↦ before
              | inr at_x ↦ absurd (other (eqb-true y x at_x))
            ])
      ];
      elsewhere = λ y out.
          let parts = or_parts (contains (take k c.args.items.now) y) (y == x) (sym (more y below)
          ∙ out) in
          not_x y (λ same. both_ways (y == x) parts.1 (eq-eqb y x same)) ∙ is.elsewhere y parts.0;
    }
