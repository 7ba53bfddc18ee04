-- The last digits of a number, two at a time.
use Rattle.std.proofs.Common.{◌≡◌, ℕ, ◌+◌, ◌/◌, ◌%◌, ◌^◌, ◌<◌, ◌≤◌, List, ◌∷◌, ◌++◌, ap, sym, ◌∙◌}
use Rattle.std.proofs.Common.{append_assoc, arith}
use Rattle.std.proofs.lemmas.Fmt.{decimal_digit}
use Rattle.std.specs.Prelude.{decimal}
use Rattle.itoa.proofs.Decimal.{pair, decimal_pair, decimal_four}

-- 100 more has a 1 before the two digits
pub hundred_more : (x : ℕ) → x < 100 → decimal (100 + x) ≡ 49 ∷ pair x
hundred_more x below =
    let one : (100 + x) / 100 ≡ 1 = omega arith in
    let same : (100 + x) % 100 ≡ x = omega arith in
    rw (decimal_pair (100 + x) (omega arith) (omega arith), one, same, decimal_digit 1 (omega arith))

-- what stands behind the front of a number is its last four digits
pub behind_front : (n : ℕ) (rest : List ℕ) → 10000 ≤ n → n < 2 ^ 64
    → decimal (n / 10000) ++ (pair (n / 100 % 100) ++ (pair (n % 100) ++ rest)) ≡ decimal n ++ rest
behind_front n rest long below =
    let a : n % 10000 / 100 ≡ n / 100 % 100 = omega arith in
    let b : n % 10000 % 100 ≡ n % 100 = omega arith in
    let front = decimal (n / 10000) in
    let four : decimal n ≡ front ++ (pair (n / 100 % 100) ++ pair (n % 100)) =
    rw (decimal_four n long below, a, b) in
    sym (ap (λ (ds : List ℕ). ds ++ rest) four
    ∙ append_assoc front (pair (n / 100 % 100) ++ pair (n % 100)) rest)
