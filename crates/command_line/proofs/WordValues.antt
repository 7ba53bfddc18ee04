-- What words stand for: a number, and names of files.
use Rattle.std.proofs.Common.{◌≡◌, ℕ, ◌^◌, ◌<◌, ◌≤◌, List, [], ◌∷◌, length, map, true, false, rules, arith}
use Rattle.std.proofs.Common.{refl, sym, subst, get_or, Bor}
use Rattle.std.specs.Prelude.{Result, Ok, Option, Some, None, ◌&&◌, if◌then◌else◌, Bool}
use Rattle.std.specs.Prelude.{OkIff, nat_le, unwrap_or, ◌≢◌}
use Rattle.std.specs.List.{list_all}
use Rattle.std.specs.Char.{digit_value, is_ascii_digit, is_digit}
use Rattle.std.specs.Str.Parse.{AllDigits, IsNumeral, digits_value, ParsesUnsigned}
use Rattle.std.proofs.lemmas.Int.Digits.{digits_value-lt}
use Rattle.std.proofs.lemmas.Result.{Ok-from_Ok_iff}
use Rattle.std.proofs.lemmas.Str.Parse.{IsNumeralModel, numerals_by_value, parse_gives}
use Rattle.std.proofs.lemmas.Str.Parse.{without_leading_plus_none}
use Rattle.std.proofs.lemmas.Bool.Decides.{nat_tests}
use Rattle.std.proofs.lemmas.List.{length-map}
use Rattle.std.proofs.lemmas.List.Folds.{list_all-map}
use Rattle.std.proofs.Math.Nat.{pow-le-pow_right}
use Rattle.command_line.specs.Numbers.{is_count, is_hexadecimal, is_number, number_within}
use Rattle.command_line.specs.Words.{is_name, valid_file_names}

abbrev AreDigits : List ℕ → Type 0
AreDigits word = list_all is_ascii_digit word ≡ true

numerals : IsNumeralModel AreDigits (digits_value 10)
numerals = numerals_by_value AreDigits (search rules)

none_at : (test : Bool) (n : ℕ) → (if test && false then Some n else None) ≡ None
none_at true n = refl
none_at false n = refl

are_digits : (digits : ℕ) (word : List ℕ) → is_number digits word ≡ true
    → AreDigits word × (0 < length word)
are_digits digits word number = (grind (arith, nat_tests), grind (arith, nat_tests))

-- a number that is not read is above all that 32 bits hold
pub number_within-none : {E : Type 0} (digits least most : ℕ) (word : List ℕ) (r : Result ℕ E)
    → ParsesUnsigned 32 10 word r → (r ≡ Ok (digits_value 10 word) → ⊥) → most < 2 ^ 32
    → is_number digits word ≡ true → number_within digits least most word ≡ None
number_within-none digits least most word r parsed failed fits number =
    let parts = are_digits digits word number in
    let above : digits_value 10 word < 2 ^ 32 → ⊥ = λ small.
    failed (parse_gives numerals 32 word r parsed parts.0 parts.1 small) in
    let high : nat_le (digits_value 10 word) most ≡ false = grind (arith, nat_tests) in
    rw (number, high) (none_at (nat_le least (digits_value 10 word)) _)

are_hexadecimal : (word : List ℕ) → list_all (λ c. is_digit c 16) word ≡ true → AllDigits 16 word
are_hexadecimal [] all = tt
are_hexadecimal (c ∷ cs) all = (grind (arith, nat_tests), are_hexadecimal cs (grind arith))

no_plus : (word : List ℕ) → AllDigits 16 word → 0 < length word → get_or word 0 0 ≢ 43
no_plus [] digits some is = absurd (omega arith)
no_plus (c ∷ cs) digits some is =
    let high : digit_value 43 < 16 = subst (λ d. digit_value d < 16) is digits.0 in
    absurd (omega arith)

-- a hexadecimal word is read as its number
pub hexadecimal_parsed : {E : Type 0} (word : List ℕ) (r : Result ℕ E)
    → ParsesUnsigned 32 16 word r
    → is_hexadecimal word ≡ true
    → r ≡ Ok (digits_value 16 word)
hexadecimal_parsed word r parsed right =
    let all : list_all (λ c. is_digit c 16) word ≡ true = grind arith in
    let some : 0 < length word = grind (arith, nat_tests) in
    let short : length word ≤ 8 = grind (arith, nat_tests) in
    let digits = are_hexadecimal word all in
    let P : List ℕ → Type 0 = λ l.
    OkIff r (IsNumeral 16 l × (digits_value 16 l < 2 ^ 32)) (digits_value 16 l) in
    let same = without_leading_plus_none word (no_plus word digits some) in
    let most : 16 ^ length word ≤ 16 ^ 8 = pow-le-pow_right {n = 16} (omega arith) short in
    let below = digits_value-lt 16 word digits in
    Ok-from_Ok_iff r _ _ (subst P same parsed) ((some, digits), omega arith)

-- whether the words that were found are names of files
pub valid_file_names-found : (found : Option (List (List ℕ)))
    (words : List (Bor (List ℕ))) (right : Bool)
    → found ≡ Some (map (λ v. v.now) words)
    → right ≡ (is_count (length words) 1024 && list_all (λ v. is_name v.now) words)
    → valid_file_names found ≡ (if right then Some (unwrap_or found []) else None)
valid_file_names-found found words right e r =
    let size = length-map words (λ (v : Bor (List ℕ)). v.now) in
    let all = list_all-map is_name (λ (v : Bor (List ℕ)). v.now) words in
    rw (e, size, all, sym r) refl
