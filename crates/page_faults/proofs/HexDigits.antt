-- Hexadecimal digits, from the last to the first.
use Rattle.std.proofs.Common.{◌≡◌, ℕ, zero, suc, ◌+◌, ◌-◌, ◌/◌, ◌%◌, ◌<◌, List, [], ◌∷◌, ◌++◌, Bool, true}
use Rattle.std.proofs.Common.{false, refl, sym, ◌∙◌, ap, cond, arith}
use Rattle.std.specs.Prelude.{◌==◌}
use Rattle.std.specs.Fmt.{digits_onto, digit_glyph}
use Rattle.std.proofs.lemmas.Bool.{eq-eqb, eqb-true}
use Rattle.page_faults.specs.FaultsText.{hex}

onto_by : (test : Bool) (k n : ℕ) (front back : List ℕ)
    → digits_onto k 16 true (n / 16) (digit_glyph true (n % 16) ∷ (front ++ back))
    ≡ digits_onto k 16 true (n / 16) (digit_glyph true (n % 16) ∷ front) ++ back
    → cond test (digit_glyph true (n % 16) ∷ (front ++ back))
    (digits_onto k 16 true (n / 16) (digit_glyph true (n % 16) ∷ (front ++ back)))
    ≡ cond test (digit_glyph true (n % 16) ∷ front)
    (digits_onto k 16 true (n / 16) (digit_glyph true (n % 16) ∷ front)) ++ back
onto_by true k n front back more = refl
onto_by false k n front back more = more

-- digits before a text stand before what it is part of
onto-append : (k n : ℕ) (front back : List ℕ)
    → digits_onto k 16 true n (front ++ back) ≡ digits_onto k 16 true n front ++ back
onto-append zero n front back = refl
onto-append (suc k) n front back =
    onto_by (n / 16 == 0) k n front back
    (onto-append k (n / 16) (digit_glyph true (n % 16) ∷ front) back)

pub hex-append : (n : ℕ) (text : List ℕ) → digits_onto 8 16 true n text ≡ hex n ++ text
unfolding hex
hex-append n text = onto-append 8 n [] text

onto-test : (k n : ℕ) (text : List ℕ) (test : Bool) → (n / 16 == 0) ≡ test
    → digits_onto (suc k) 16 true n text
    ≡ cond test (digit_glyph true (n % 16) ∷ text)
    (digits_onto k 16 true (n / 16) (digit_glyph true (n % 16) ∷ text))
onto-test k n text test is =
    ap (λ (b : Bool). cond b (digit_glyph true (n % 16) ∷ text)
    (digits_onto k 16 true (n / 16) (digit_glyph true (n % 16) ∷ text))) is

test_false : (a : ℕ) (test : Bool) → (a == 0) ≡ test → (a ≡ 0 → ⊥) → test ≡ false
test_false a true is some = absurd (some (eqb-true a 0 is))
test_false a false is some = refl

-- with the first digit, where it is the last that is left
pub digit_last : (count n : ℕ) (text : List ℕ) → count < 8 → n / 16 ≡ 0
    → digit_glyph true (n % 16) ∷ text ≡ digits_onto (8 - count) 16 true n text
digit_last count n text below last =
    let one : 8 - count ≡ suc (8 - (count + 1)) = omega arith in
    sym (ap (λ (k : ℕ). digits_onto k 16 true n text) one
    ∙ onto-test (8 - (count + 1)) n text true (eq-eqb (n / 16) 0 last))

-- with one digit more, where others are left
pub digit_more : (count n : ℕ) (text : List ℕ) → count < 8 → (n / 16 ≡ 0 → ⊥)
    → digits_onto (8 - (count + 1)) 16 true (n / 16) (digit_glyph true (n % 16) ∷ text)
    ≡ digits_onto (8 - count) 16 true n text
digit_more count n text below some =
    let one : 8 - count ≡ suc (8 - (count + 1)) = omega arith in
    sym (ap (λ (k : ℕ). digits_onto k 16 true n text) one
    ∙ onto-test (8 - (count + 1)) n text false (test_false (n / 16) (n / 16 == 0) refl some))
