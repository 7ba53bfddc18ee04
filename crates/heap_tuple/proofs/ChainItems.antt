-- The chain of an item, as a list of distinct items.
use Rattle.std.proofs.Common.{◌≡◌, ℕ, zero, suc, ◌<◌, ◌≤◌, Bool, true, false, ◌||◌}
use Rattle.std.proofs.Common.{List, [], ◌∷◌, length, refl, ap, sym, ◌∙◌, arith, inl, inr}
use Rattle.std.specs.Prelude.{nat_eq, ◌==◌, Option, Some, None, ⊤, IfSome}
use Rattle.std.specs.List.{IsDistinct}
use Rattle.std.proofs.lemmas.Bool.{or_cases, or_from, or_right, or_left, eqb-true}
use Rattle.std.proofs.lemmas.Bool.{both_ways, false_from_ne_true}
use Rattle.std.proofs.lemmas.Map.Steps.{length-le_from_distinct_below}
use Rattle.heap_tuple.specs.Chains.{contains, StepsPass, chain_from}
use Rattle.heap_tuple.specs.ChainLengths.{IsWholeChain, EndsInCircle}
use Rattle.heap_tuple.proofs.DistinctItems.{distinct-head, distinct-tail, distinct-cons, distinct-none}
use Rattle.heap_tuple.proofs.DistinctItems.{contains-first}

-- the last of these items has no step, or one to an item that was passed before or to one of these
abbrev EndsIn : List ℕ → List ℕ → Option ℕ → Type 0
EndsIn passed items None = ⊤
EndsIn passed items (Some x) = (contains passed x || contains items x) ≡ true

-- none of these was passed before
abbrev AreNew : List ℕ → List ℕ → Type 0
AreNew passed items = (x : ℕ) → contains items x ≡ true → contains passed x ≡ false

new_first : (passed : List ℕ) (x : ℕ) (xs : List ℕ) → AreNew passed (x ∷ xs)
    → contains passed x ≡ false
new_first passed x xs new = new x (contains-first x xs)

new_rest : (passed : List ℕ) (x : ℕ) (xs : List ℕ) → IsDistinct nat_eq (x ∷ xs)
    → AreNew passed (x ∷ xs) → AreNew (x ∷ passed) xs
new_rest passed x xs distinct new =
    λ y here. or_from (y == x) (contains passed y)
    (false_from_ne_true (y == x) (λ same. both_ways (contains xs x) (distinct-head x xs distinct)
    (rw (sym (eqb-true y x same)) here)))
    (new y (or_right (y == x) (contains xs y) here))

ends_rest : (passed : List ℕ) (x : ℕ) (xs : List ℕ) (then : Option ℕ) → EndsIn passed (x ∷ xs) then
    → EndsIn (x ∷ passed) xs then
ends_rest passed x xs None ends = tt
ends_rest passed x xs (Some y) ends = elim (or_cases (contains passed y) (contains (x ∷ xs) y) ends) [
  | inl before ↦ or_left (contains (x ∷ passed) y) (contains xs y)
      (or_right (y == x) (contains passed y) before)
  | inr here ↦ elim (or_cases (y == x) (contains xs y) here) [
    | inl same ↦ or_left (contains (x ∷ passed) y) (contains xs y)
        (or_left (y == x) (contains passed y) same)
    | inr there ↦ or_right (contains (x ∷ passed) y) (contains xs y) there
  ]
]

module _ (next : ℕ → Option ℕ) where
  stops : (most : ℕ) (passed : List ℕ) (at : Option ℕ) → EndsIn passed [] at
      → chain_from next most passed at ≡ []
  stops zero passed at ends = refl
  stops (suc most) passed None ends = refl
  stops (suc most) passed (Some x) ends =
      let here : contains passed x ≡ true = elim (or_cases (contains passed x) false ends) [
        | inl before ↦ before
        | inr none ↦ absurd (both_ways false refl none)
      ] in
      rw here refl

  goes_on : (most : ℕ) (passed : List ℕ) (at : Option ℕ) (x : ℕ) → at ≡ Some x → contains passed x
      ≡ false
      → chain_from next (suc most) passed at ≡ x ∷ chain_from next most (x ∷ passed) (next x)
  goes_on most passed at x is new = rw is (rw new refl)

  -- a chain that cannot be longer is the one that is found by following the steps
  pub chain_from-whole : (most : ℕ) (passed : List ℕ) (at then : Option ℕ) (xs : List ℕ)
      → StepsPass next at xs then → IsDistinct nat_eq xs → AreNew passed xs → EndsIn passed xs then
      → length xs ≤ most → chain_from next most passed at ≡ xs
  chain_from-whole most passed at then [] passes distinct new ends few =
      stops most passed at (rw passes ends)
  chain_from-whole zero passed at then (x ∷ xs) passes distinct new ends few = absurd (omega arith)
  chain_from-whole (suc most) passed at then (x ∷ xs) passes distinct new ends few =
      goes_on most passed at x passes.0 (new_first passed x xs new)
      ∙ ap (λ (ys : List ℕ). x ∷ ys)
      (chain_from-whole most (x ∷ passed) (next x) then xs passes.1 (distinct-tail x xs distinct)
      (new_rest passed x xs distinct new) (ends_rest passed x xs then ends) (omega arith))

  -- and no chain is longer
  pub chain_from-longest : (most : ℕ) (passed : List ℕ) (at then : Option ℕ) (xs : List ℕ)
      → StepsPass next at xs then → IsDistinct nat_eq xs → AreNew passed xs
      → length xs ≤ most → length xs ≤ length (chain_from next most passed at)
  chain_from-longest most passed at then [] passes distinct new few = omega arith
  chain_from-longest zero passed at then (x ∷ xs) passes distinct new few = absurd (omega arith)
  chain_from-longest (suc most) passed at then (x ∷ xs) passes distinct new few =
      omega (
        arith,
        ap length (goes_on most passed at x passes.0 (new_first passed x xs new)),
        chain_from-longest most (x ∷ passed) (next x) then xs passes.1 (distinct-tail x xs distinct)
            (new_rest passed x xs distinct new) (omega arith),
      )

  -- what is found by following the steps
  pub record IsFound (passed : List ℕ) (at : Option ℕ) (items : List ℕ) : Type 0 where
    pub last_step : Option ℕ
    pub steps : StepsPass next at items last_step
    pub distinct : IsDistinct nat_eq items
    pub new : AreNew passed items

  nothing : (passed : List ℕ) (at : Option ℕ) → IsFound passed at []
  nothing passed at = record {
    last_step = at;
    steps = refl;
    distinct = distinct-none;
    new = λ x here. absurd (both_ways false refl here);
  }

  more : (passed : List ℕ) (x : ℕ) (xs : List ℕ) → contains passed x ≡ false
      → IsFound (x ∷ passed) (next x) xs → IsFound passed (Some x) (x ∷ xs)
  more passed x xs fresh rest = record {
    last_step = rest.last_step;
    steps = (refl, rest.steps);
    distinct = distinct-cons x xs
        (false_from_ne_true (contains xs x)
        (λ here. both_ways (contains (x ∷ passed) x) (rest.new x here) (contains-first x passed)))
        rest.distinct;
    new = λ y here. elim (or_cases (y == x) (contains xs y) here) [
      | inl same ↦ rw (eqb-true y x same) fresh
      | inr there ↦
          false_from_ne_true (contains passed y)
          (λ before. both_ways (contains (x ∷ passed) y) (rest.new y there)
          (or_right (y == x) (contains passed y) before))
    ];
  }

  by_passed : (b : Bool) (most : ℕ) (passed : List ℕ) (x : ℕ) → contains passed x ≡ b
      → IsFound (x ∷ passed) (next x) (chain_from next most (x ∷ passed) (next x))
      → IsFound passed (Some x) (chain_from next (suc most) passed (Some x))
  by_passed true most passed x is rest = rw is (nothing passed (Some x))
  by_passed false most passed x is rest = rw is (more passed x _ is rest)

  pub chain_from-found : (most : ℕ) (passed : List ℕ) (at : Option ℕ)
      → IsFound passed at (chain_from next most passed at)
  chain_from-found zero passed at = nothing passed at
  chain_from-found (suc most) passed None = nothing passed None
  chain_from-found (suc most) passed (Some x) =
      by_passed (contains passed x) most passed x refl (chain_from-found most (x ∷ passed) (next x))

  -- items that are passed stand below n, where each step leads below n
  pub passes-below : (n : ℕ) (at then : Option ℕ) (xs : List ℕ)
      → ((x : ℕ) → x < n → IfSome (next x) (λ y. y < n)) → IfSome at (λ y. y < n)
      → StepsPass next at xs then → (x : ℕ) → contains xs x ≡ true → x < n
  passes-below n at then [] each first passes x here = absurd (both_ways false refl here)
  passes-below n at then (y ∷ ys) each first passes x here =
      let below : y < n = rw passes.0 at first in
      elim (or_cases (x == y) (contains ys x) here) [
        | inl same ↦ omega (arith, eqb-true x y same, below)
        | inr there ↦ passes-below n (next y) then ys each (each y below) passes.1 x there
      ]

  -- so there are at most n of them
  pub passes-few : (n : ℕ) (at then : Option ℕ) (xs : List ℕ)
      → ((x : ℕ) → x < n → IfSome (next x) (λ y. y < n)) → IfSome at (λ y. y < n)
      → StepsPass next at xs then → IsDistinct nat_eq xs → length xs ≤ n
  passes-few n at then xs each first passes distinct =
      length-le_from_distinct_below xs n distinct (passes-below n at then xs each first passes)

  ends_alone : (xs : List ℕ) (then : Option ℕ) → EndsInCircle xs then → EndsIn [] xs then
  ends_alone xs None ends = tt
  ends_alone xs (Some x) ends = ends

  pub whole_chain : (n first : ℕ) (items : List ℕ) → IsWholeChain next first items → length items ≤ n
      → chain_from next n [] (Some first) ≡ items
  whole_chain n first items whole few =
      chain_from-whole n [] (Some first) whole.last_step items whole.steps whole.distinct
      (λ x here. refl) (ends_alone items whole.last_step whole.ends) few
