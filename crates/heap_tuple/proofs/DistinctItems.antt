-- Lists of distinct numbers, and what stands in them.
use Rattle.std.proofs.Common.{◌≡◌, ◌⊎◌, ℕ, zero, suc, ◌+◌, ◌<◌, Bool, true, false, ◌||◌, List, []}
use Rattle.std.proofs.Common.{◌∷◌}
use Rattle.std.proofs.Common.{◌++◌, length, take, drop, get_or, refl, ap, sym, ◌∙◌, arith, inl, inr}
use Rattle.std.proofs.Common.{eq-eqb}
use Rattle.std.specs.Prelude.{nat_eq, ◌==◌}
use Rattle.std.specs.List.{IsDistinct, AllByRecursion}
use Rattle.std.proofs.lemmas.Bool.{or_cases, or_from, or_right, or_left, or_parts, eqb-true}
use Rattle.std.proofs.lemmas.Bool.{both_ways, cases_Bool}
use Rattle.std.proofs.lemmas.Bool.{false_from_ne_true}
use Rattle.std.proofs.lemmas.List.Folds.{list_any-append, list_any_more}
use Rattle.std.proofs.lemmas.List.Sorted.{IsPermutation-append_comm, list_any-IsPermutation}
use Rattle.std.proofs.lemmas.List.Sorted.{length_permutation}
use Rattle.std.proofs.lemmas.Map.Keys.{IsDistinct-head, IsDistinct-tail, IsDistinct-cons}
use Rattle.std.proofs.lemmas.Map.Keys.{IsDistinct-IsPermutation}
use Rattle.heap_tuple.specs.Chains.{contains}

absent : (x : ℕ) (xs : List ℕ) → AllByRecursion (λ y. nat_eq x y ≡ false) xs → contains xs x ≡ false
absent x [] each = refl
absent x (y ∷ ys) each = or_from (x == y) (contains ys x) each.0 (absent x ys each.1)

apart : (x : ℕ) (xs : List ℕ) → contains xs x ≡ false → AllByRecursion (λ y. nat_eq x y ≡ false) xs
apart x [] none = tt
apart x (y ∷ ys) none =
    let parts = or_parts (x == y) (contains ys x) none in
    (parts.0, apart x ys parts.1)

pub distinct-head : (x : ℕ) (xs : List ℕ) → IsDistinct nat_eq (x ∷ xs) → contains xs x ≡ false
distinct-head x xs distinct = absent x xs (IsDistinct-head nat_eq x xs distinct)

pub distinct-tail : (x : ℕ) (xs : List ℕ) → IsDistinct nat_eq (x ∷ xs) → IsDistinct nat_eq xs
distinct-tail x xs distinct = IsDistinct-tail nat_eq x xs distinct

pub distinct-cons : (x : ℕ) (xs : List ℕ) → contains xs x ≡ false → IsDistinct nat_eq xs
    → IsDistinct nat_eq (x ∷ xs)
distinct-cons x xs none distinct = IsDistinct-cons nat_eq x xs (apart x xs none) distinct

pub distinct-none : IsDistinct nat_eq []
unfolding IsDistinct
distinct-none = tt

pub contains-append : (xs ys : List ℕ) (x : ℕ)
    → contains (xs ++ ys) x ≡ (contains xs x || contains ys x)
contains-append xs ys x = list_any-append (λ y. x == y) xs ys

eqb_flips : (x y : ℕ) → nat_eq x y ≡ nat_eq y x
eqb_flips x y = elim (cases_Bool (nat_eq y x)) [
  | inl same ↦ eq-eqb x y (sym (eqb-true y x same)) ∙ sym same
  | inr other ↦
      false_from_ne_true (nat_eq x y)
      (λ same. both_ways (nat_eq y x) other (eq-eqb y x (sym (eqb-true x y same)))) ∙ sym other
]

-- two parts of a list in the other order
pub distinct-turned : (xs ys : List ℕ) → IsDistinct nat_eq (xs ++ ys) → IsDistinct nat_eq (ys ++ xs)
distinct-turned xs ys distinct =
    IsDistinct-IsPermutation nat_eq eqb_flips (xs ++ ys) (ys ++ xs)
    (IsPermutation-append_comm xs ys) distinct

pub contains-turned : (xs ys : List ℕ) (x : ℕ) → contains (xs ++ ys) x ≡ contains (ys ++ xs) x
contains-turned xs ys x =
    list_any-IsPermutation (λ y. x == y) (xs ++ ys) (ys ++ xs) (IsPermutation-append_comm xs ys)

pub length-turned : (xs ys : List ℕ) → length (ys ++ xs) ≡ length (xs ++ ys)
length-turned xs ys = length_permutation (xs ++ ys) (ys ++ xs) (IsPermutation-append_comm xs ys)

-- a list of distinct numbers without its last one, which does not stand in the others
pub distinct-last : (xs : List ℕ) (x : ℕ) → IsDistinct nat_eq (xs ++ x ∷ [])
    → (contains xs x ≡ false) × IsDistinct nat_eq xs
distinct-last xs x distinct =
    let turned : IsDistinct nat_eq (x ∷ xs) = distinct-turned xs (x ∷ []) distinct in
    (distinct-head x xs turned, distinct-tail x xs turned)

pub distinct-pushed : (xs : List ℕ) (x : ℕ) → contains xs x ≡ false → IsDistinct nat_eq xs
    → IsDistinct nat_eq (xs ++ x ∷ [])
distinct-pushed xs x none distinct = distinct-turned (x ∷ []) xs (distinct-cons x xs none distinct)

-- the last part of a list of distinct numbers
pub distinct-behind : (xs ys : List ℕ) → IsDistinct nat_eq (xs ++ ys) → IsDistinct nat_eq ys
distinct-behind [] ys distinct = distinct
distinct-behind (x ∷ xs) ys distinct = distinct-behind xs ys (distinct-tail x (xs ++ ys) distinct)

pub contains-first : (x : ℕ) (xs : List ℕ) → contains (x ∷ xs) x ≡ true
contains-first x xs = or_left (x == x) (contains xs x) (eq-eqb x x refl)

pub contains-left : (xs ys : List ℕ) (x : ℕ) → contains xs x ≡ true → contains (xs ++ ys) x ≡ true
contains-left xs ys x here = contains-append xs ys x ∙ or_left (contains xs x) (contains ys x) here

pub contains-right : (xs ys : List ℕ) (x : ℕ) → contains ys x ≡ true → contains (xs ++ ys) x ≡ true
contains-right xs ys x here = contains-append xs ys x
    ∙ or_right (contains xs x) (contains ys x) here

pub contains-either : (xs ys : List ℕ) (x : ℕ) → contains (xs ++ ys) x ≡ true
    → (contains xs x ≡ true) ⊎ (contains ys x ≡ true)
contains-either xs ys x here = or_cases (contains xs x) (contains ys x)
    (sym (contains-append xs ys x) ∙ here)

pub contains-one : (x y : ℕ) → contains (x ∷ []) y ≡ true → y ≡ x
contains-one x y here = elim (or_cases (y == x) false here) [
  | inl same ↦ eqb-true y x same
  | inr none ↦ absurd (both_ways false refl none)
]

-- where x stands in a list
split_at : (same : Bool) (y x : ℕ) (ys : List ℕ) → (x == y) ≡ same
    → (contains ys x ≡ true → (before behind : List ℕ) × (ys ≡ before ++ x ∷ behind))
    → contains (y ∷ ys) x ≡ true → (before behind : List ℕ) × (y ∷ ys ≡ before ++ x ∷ behind)
split_at true y x ys is rest here =
    ([], ys, ap (λ (z : ℕ). z ∷ ys) (sym (eqb-true x y is)))
split_at false y x ys is rest here =
    let there : contains ys x ≡ true = elim (or_cases (x == y) (contains ys x) here) [
      | inl same ↦ absurd (both_ways (x == y) is same)
      | inr there ↦ there
    ] in
    let further = rest there in
    (y ∷ further.0, further.1, ap (λ (zs : List ℕ). y ∷ zs) further.2)

pub place_of : (xs : List ℕ) (x : ℕ) → contains xs x ≡ true
    → (before behind : List ℕ) × (xs ≡ before ++ x ∷ behind)
place_of [] x here = absurd (both_ways false refl here)
place_of (y ∷ ys) x here = split_at (x == y) y x ys refl (place_of ys x) here

-- where no place has it, it does not stand there
pub has_no_place : (xs : List ℕ) (x : ℕ) → ((k : ℕ) → k < length xs → get_or xs k 0 ≡ x → ⊥)
    → contains xs x ≡ false
has_no_place [] x none = refl
has_no_place (y ∷ ys) x none =
    or_from (x == y) (contains ys x)
    (false_from_ne_true (x == y) (λ same. none 0 (omega arith) (sym (eqb-true x y same))))
    (has_no_place ys x (λ k below is. none (suc k) (omega arith) is))

-- the first k + 1 of a list
pub has_more : (xs : List ℕ) (k x : ℕ) → k < length xs
    → contains (take (k + 1) xs) x ≡ (contains (take k xs) x || (x == get_or xs k 0))
has_more xs k x below = list_any_more (λ y. x == y) xs k 0 below

pub has_at : (xs : List ℕ) (k x : ℕ) → k < length xs → x ≡ get_or xs k 0 → contains xs x ≡ true
has_at [] k x below is = absurd (omega arith)
has_at (y ∷ ys) zero x below is = or_left (x == y) (contains ys x) (eq-eqb x y is)
has_at (y ∷ ys) (suc k) x below is = or_right (x == y) (contains ys x)
    (has_at ys k x (omega arith) is)

-- at a place, a list is what stands before it, the item there and what stands behind it
pub split_there : (xs : List ℕ) (k x : ℕ) → k < length xs → get_or xs k 0 ≡ x
    → (rest : List ℕ) × (drop k xs ≡ x ∷ rest) × (xs ≡ take k xs ++ x ∷ rest)
split_there [] k x below is = absurd (omega arith)
split_there (y ∷ ys) zero x below is =
    let same : (y ∷ ys) ≡ (x ∷ ys) = ap (λ (z : ℕ). z ∷ ys) is in
    (ys, same, same)
split_there (y ∷ ys) (suc k) x below is =
    let further = split_there ys k x (omega arith) is in
    (further.0, further.1, ap (λ (zs : List ℕ). y ∷ zs) further.2)

-- two parts of a list of distinct numbers have nothing in common
pub distinct-apart : (xs ys : List ℕ) → IsDistinct nat_eq (xs ++ ys) → (x : ℕ)
    → contains xs x ≡ true
    → contains ys x ≡ false
distinct-apart [] ys distinct x here = absurd (both_ways false refl here)
distinct-apart (z ∷ zs) ys distinct x here = elim (or_cases (x == z) (contains zs x) here) [
  | inl same ↦
      rw (eqb-true x z same)
      ((or_parts (contains zs z) (contains ys z)
      (sym (contains-append zs ys z) ∙ distinct-head z (zs ++ ys) distinct)).1)
  | inr there ↦ distinct-apart zs ys (distinct-tail z (zs ++ ys) distinct) x there
]

pub distinct-before : (xs ys : List ℕ) → IsDistinct nat_eq (xs ++ ys) → IsDistinct nat_eq xs
distinct-before xs ys distinct = distinct-behind ys xs (distinct-turned xs ys distinct)
