-- Lengths of chains that are written down.
use Rattle.std.proofs.Common.{◌≡◌, ℕ, ◌+◌, ◌<◌, true, false}
use Rattle.std.proofs.Common.{List, [], ◌∷◌, ◌++◌, length, refl, ap, sym, ◌∙◌, arith, inl, inr, set}
use Rattle.std.proofs.Common.{get_or, get_or-set_same, get_or-set_other}
use Rattle.std.specs.Prelude.{nat_eq, ◌==◌, Option, Some, None}
use Rattle.std.specs.List.{IsDistinct}
use Rattle.std.proofs.lemmas.Bool.{or_cases, or_right, eqb-true, cases_eq}
use Rattle.std.proofs.lemmas.Bool.{both_ways, cases_Bool, false_from_ne_true}
use Rattle.heap_tuple.specs.Chains.{contains, StepsPass}
use Rattle.heap_tuple.specs.ChainLengths.{IsWholeChain, HasKnownLength, AreChainLengths, EndsInCircle, RemainingLength}
use Rattle.heap_tuple.proofs.DistinctItems.{distinct-cons, distinct-none, distinct-turned}
use Rattle.heap_tuple.proofs.DistinctItems.{contains-turned}
use Rattle.heap_tuple.proofs.DistinctItems.{contains-first, length-turned, place_of}
use Rattle.heap_tuple.proofs.PassedItems.{passes-append, passes-split}

module _ (next : ℕ → Option ℕ) where
  -- what is known stays known where no known length changes
  pub known-stays : (lengths more : List ℕ)
      → ((x : ℕ) → 0 < get_or lengths x 0 → get_or more x 0 ≡ get_or lengths x 0)
      → (x : ℕ) → 0 < get_or lengths x 0 → HasKnownLength next lengths x → HasKnownLength next more x
  known-stays lengths more same x here known = record {
    items = known.items;
    whole = known.whole;
    size = known.size ∙ sym (same x here);
    known = λ y there. omega (arith, same y (known.known y there), known.known y there);
  }

  -- the chain behind an item
  record Behind (lengths : List ℕ) (at : Option ℕ) (long : ℕ) : Type 0 where
    items : List ℕ
    last_step : Option ℕ
    steps : StepsPass next at items last_step
    distinct : IsDistinct nat_eq items
    ends : EndsInCircle items last_step
    size : length items ≡ long
    known : (x : ℕ) → contains items x ≡ true → 0 < get_or lengths x 0

  behind_of : (lengths : List ℕ) (at : Option ℕ) (long : ℕ) → AreChainLengths next lengths
      → RemainingLength lengths at long → Behind lengths at long
  behind_of lengths None long are remaining = record {
    items = [];
    last_step = None;
    steps = refl;
    distinct = distinct-none;
    ends = tt;
    size = sym remaining;
    known = λ x here. absurd (both_ways false refl here);
  }
  behind_of lengths (Some x) long are remaining =
      let is = are x (omega (arith, remaining.0, remaining.1)) in
      record {
        items = is.items;
        last_step = is.whole.last_step;
        steps = is.whole.steps;
        distinct = is.whole.distinct;
        ends = is.whole.ends;
        size = is.size ∙ sym remaining.0;
        known = is.known;
      }

  ends_more : (x : ℕ) (xs : List ℕ) (then : Option ℕ) → EndsInCircle xs then
      → EndsInCircle (x ∷ xs) then
  ends_more x xs None ends = tt
  ends_more x xs (Some y) ends = or_right (y == x) (contains xs y) ends

  set_keeps : (lengths : List ℕ) (x long : ℕ) → get_or lengths x 0 ≡ 0
      → (y : ℕ) → 0 < get_or lengths y 0 → get_or (set lengths x long) y 0 ≡ get_or lengths y 0
  set_keeps lengths x long none y some =
      get_or-set_other lengths x y long 0
      (λ same. absurd (omega (arith, some, ap (λ (z : ℕ). get_or lengths z 0) same, none)))

  -- an item whose step leads to where the chain is known
  pub known_more : (lengths : List ℕ) (at : Option ℕ) (x long : ℕ) → AreChainLengths next lengths
      → RemainingLength lengths at long → next x ≡ at → x < length lengths → get_or lengths x 0 ≡ 0
      → AreChainLengths next (set lengths x (long + 1))
  known_more lengths at x long are remaining is below none =
      let behind = behind_of lengths at long are remaining in
      let here : get_or (set lengths x (long + 1)) x 0 ≡ long + 1 =
      get_or-set_same lengths x (long + 1) 0 below in
      let fresh : contains behind.items x ≡ false =
      false_from_ne_true (contains behind.items x)
      (λ there. absurd (omega (arith, behind.known x there, none))) in
      let keeps = set_keeps lengths x (long + 1) none in
      λ y some. elim (cases_eq y x) [
        | inl same ↦ rw same record {
          items = x ∷ behind.items;
          whole = record {
            distinct = distinct-cons x behind.items fresh behind.distinct;
            last_step = behind.last_step;
            steps = (refl, rw is behind.steps);
            ends = ends_more x behind.items behind.last_step behind.ends;
          };
          size = omega (arith, behind.size, here);
          known = λ z there. elim (or_cases (z == x) (contains behind.items z) there) [
            | inl as_x ↦
                omega (
                  arith,
                  here,
                  ap (λ (w : ℕ). get_or (set lengths x (long + 1)) w 0)
                      (eqb-true z x as_x),
                )
            | inr further ↦ omega (arith, keeps z (behind.known z further), behind.known z further)
          ];
        }
        | inr other ↦
            let before : get_or (set lengths x (long + 1)) y 0 ≡ get_or lengths y 0 =
            get_or-set_other lengths x y (long + 1) 0 other in
            let positive : 0 < get_or lengths y 0 = omega (arith, some, before) in
            known-stays lengths (set lengths x (long + 1)) keeps y positive (are y positive)
      ]

  -- steps in a circle, of which each item's chain is the whole circle
  turned : (first x : ℕ) (before behind : List ℕ)
      → StepsPass next (Some first) (before ++ x ∷ behind) (Some first)
      → IsDistinct nat_eq (before ++ x ∷ behind)
      → IsWholeChain next x (x ∷ behind ++ before)
  turned first x before behind passes distinct =
      let parts = passes-split next (Some first) (Some first) before (x ∷ behind) passes in
      let at_x : parts.0 ≡ Some x = parts.2.0 in
      record {
        distinct = distinct-turned before (x ∷ behind) distinct;
        last_step = Some x;
        steps = passes-append next (Some x) (Some first) (Some x) (x ∷ behind) before
            (refl, parts.2.1) (rw (sym at_x) parts.1);
        ends = contains-first x (behind ++ before);
      }

  pub circle_known : (lengths more : List ℕ) (first : ℕ) (circle : List ℕ)
      → StepsPass next (Some first) circle (Some first) → IsDistinct nat_eq circle
      → ((x : ℕ) → contains circle x ≡ true → get_or lengths x 0 ≡ 0)
      → ((x : ℕ) → contains circle x ≡ true → get_or more x 0 ≡ length circle)
      → ((x : ℕ) → contains circle x ≡ false → get_or more x 0 ≡ get_or lengths x 0)
      → 0 < length circle
      → AreChainLengths next lengths → AreChainLengths next more
  circle_known lengths more first circle passes distinct fresh inside outside some are =
      λ x positive. elim (cases_Bool (contains circle x)) [
        | inl here ↦
            let place = place_of circle x here in
            let before = place.0 in
            let behind = place.1 in
            let turn = turned first x before behind (rw (sym place.2) passes)
            (rw (sym place.2) distinct) in
            record {
              items = x ∷ behind ++ before;
              whole = turn;
              size = length-turned before (x ∷ behind) ∙ ap length (sym place.2)
                  ∙ sym (inside x here);
              known = λ y there.
                  let in_circle : contains circle y ≡ true =
                  ap (λ (ys : List ℕ). contains ys y) place.2
                  ∙ contains-turned before (x ∷ behind) y
                  ∙ there in
                  omega (arith, inside y in_circle, some);
            }
        | inr out ↦
            let before : 0 < get_or lengths x 0 = omega (arith, positive, outside x out) in
            known-stays lengths more
            (λ y known. outside y (false_from_ne_true (contains circle y)
            (λ there. absurd (omega (arith, fresh y there, known)))))
            x before (are x before)
      ]
