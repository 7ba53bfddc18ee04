-- Counts that are 0 or 1, and which marks are due where a word has a rank.
use Rattle.std.proofs.Common.{◌≡◌, ◌≢◌, ℕ, ◌+◌, ◌*◌, ◌<◌, ◌≤◌, ◌==◌, Bool, true, false, arith}
use Rattle.std.proofs.lemmas.Bool.Decides.{nat_tests}
use Rattle.aio_word.specs.Stands.{one_if}
use Rattle.aio_word.specs.StandsByRank.{is_due}

pub one-if-le : (b : Bool) → one_if b ≤ 1
one-if-le true = omega arith
one-if-le false = omega arith

pub one-if-no : (a b : ℕ) → a ≢ b → one_if (a == b) ≡ 0
one-if-no a b h = grind (arith, nat_tests)

pub number-itself : (n : ℕ) → one_if (n == n) ≡ 1
number-itself n = grind (arith, nat_tests)

pub due-one : (s r n : ℕ) → 8 * s ≤ n → n < r → one_if (is_due s r n) ≡ 1
due-one s r n lo hi = grind (arith, nat_tests)

pub due-true : (s r n : ℕ) → 0 < one_if (is_due s r n) → (8 * s ≤ n) × (n < r)
due-true s r n h = grind (arith, nat_tests)

pub due-more : (s r n : ℕ) → 8 * s ≤ r
    → one_if (is_due s (r + 1) n) ≡ one_if (is_due s r n) + one_if (r == n)
due-more s r n h = grind (arith, nat_tests)

pub not-due : (s r n : ℕ) → r ≤ n → one_if (is_due s r n) ≡ 0
not-due s r n h = grind (arith, nat_tests)
