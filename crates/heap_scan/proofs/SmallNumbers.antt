-- The table of numbers: each entry has the number's text and a blank, and shifted by a byte the text.
use Rattle.std.proofs.Common.{◌≡◌, ℕ, zero, suc, ◌+◌, ◌-◌, ◌*◌, ◌%◌, ◌^◌, ◌<◌, Bool, true, false, ◌&&◌, ◌==◌}
use Rattle.std.proofs.Common.{List, [], ◌∷◌, length, drop, get_or, refl, subst, arith, eqb-true}
use Rattle.std.proofs.lemmas.Bool.{and_parts}
use Rattle.std.specs.Prelude.{decimal, codes, ◌++◌}
use Rattle.std.specs.Fmt.{digits}
use lib.Lanes.{digits_l, number_l}
use Rattle.heap_scan.specs.declared.numbers.TheConstants.{DECIMALS}

-- what an entry has at the end of its eight bytes: the lowest says how long that is
abbrev pub text_in : ℕ → List ℕ
text_in entry = drop (8 - entry % 256) (digits_l 256 8 (number_l (2 ^ 64) (entry ∷ [])))

-- what it has there once it is shifted by a byte, so that the blank is gone
abbrev pub shifted_text_in : ℕ → List ℕ
shifted_text_in entry =
    drop (8 - (entry % 256 - 1)) (digits_l 256 8 (number_l (2 ^ 64) (entry * 256 % 2 ^ 64 ∷ [])))

unfoldable is_same : List ℕ → List ℕ → Bool
is_same [] [] = true
is_same [] (y ∷ ys) = false
is_same (x ∷ xs) [] = false
is_same (x ∷ xs) (y ∷ ys) = (x == y) && is_same xs ys

is_same-true : (xs ys : List ℕ) → is_same xs ys ≡ true → xs ≡ ys
unfolding is_same
is_same-true [] [] h = refl
is_same-true [] (y ∷ ys) h = cc
is_same-true (x ∷ xs) [] h = cc
is_same-true (x ∷ xs) (y ∷ ys) h =
    let both = and_parts (x == y) (is_same xs ys) h in
    let first : x ≡ y = eqb-true x y both.0 in
    let rest : xs ≡ ys = is_same-true xs ys both.1 in
    cc

abbrev is_entry : ℕ → ℕ → Bool
is_entry n entry =
    (entry % 256 == length (decimal n) + 1)
    && (is_same (text_in entry) (decimal n ++ codes " ") && is_same (shifted_text_in entry) (decimal n))

-- what an entry has of its number
pub record IsEntry (n entry : ℕ) : Type 0 where
  pub len : entry % 256 ≡ length (decimal n) + 1
  pub text : text_in entry ≡ decimal n ++ codes " "
  pub shifted : shifted_text_in entry ≡ decimal n

is_entry-true : (n entry : ℕ) → is_entry n entry ≡ true → IsEntry n entry
is_entry-true n entry h =
    let text = decimal n ++ codes " " in
    let whole = is_same (text_in entry) text in
    let shifted = is_same (shifted_text_in entry) (decimal n) in
    let both = and_parts (entry % 256 == length (decimal n) + 1) (whole && shifted) h in
    let texts = and_parts whole shifted both.1 in
    record {
      len = eqb-true (entry % 256) (length (decimal n) + 1) both.0;
      text = is_same-true (text_in entry) text texts.0;
      shifted = is_same-true (shifted_text_in entry) (decimal n) texts.1;
    }

-- the entries are those of the numbers from n on
unfoldable are_entries : ℕ → List ℕ → Bool
are_entries n [] = true
are_entries n (entry ∷ entries) = is_entry n entry && are_entries (suc n) entries

are_entries-at : (n : ℕ) (entries : List ℕ) (k : ℕ) → are_entries n entries ≡ true → k < length entries
    → IsEntry (n + k) (get_or entries k 0)
unfolding are_entries
are_entries-at n [] k h below = absurd (omega arith)
are_entries-at n (entry ∷ entries) zero h below =
    let both = and_parts (is_entry n entry) (are_entries (suc n) entries) h in
    let e : n ≡ n + zero = omega arith in
    subst (λ m. IsEntry m entry) e (is_entry-true n entry both.0)
are_entries-at n (entry ∷ entries) (suc k) h below =
    let both = and_parts (is_entry n entry) (are_entries (suc n) entries) h in
    let e : suc n + k ≡ n + suc k = omega arith in
    subst (λ m. IsEntry m (get_or entries k 0)) e (are_entries-at (suc n) entries k both.1 (omega arith))

-- one computation over the whole table
table-are_entries : are_entries 0 DECIMALS ≡ true
unfolding are_entries is_same digits
table-are_entries = refl

pub table-entry : (n : ℕ) → n < 10000 → IsEntry n (get_or DECIMALS n 0)
table-entry n below =
    let e : 0 + n ≡ n = omega arith in
    subst (λ m. IsEntry m (get_or DECIMALS n 0)) e (are_entries-at 0 DECIMALS n table-are_entries (omega arith))
