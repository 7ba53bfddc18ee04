-- An `or` is zero where both its parts are.
use Rattle.std.proofs.Common.{◌≡◌, ℕ, zero, suc, ◌≤◌, ◌==◌, ◌&&◌, refl, arith}
use Rattle.std.specs.Prelude.{bit_or}
use Rattle.std.proofs.lemmas.Nat.{le_or_l, le_or_r}
use Rattle.std.proofs.lemmas.Bool.Decides.{nat_tests}

pub or_is_zero : (a b : ℕ) → (bit_or a b == 0) ≡ ((a == 0) && (b == 0))
or_is_zero zero zero = refl
or_is_zero zero (suc b) = let more : suc b ≤ bit_or 0 (suc b) =
    le_or_r 0 (suc b) in grind (arith, nat_tests)
or_is_zero (suc a) b = let more : suc a ≤ bit_or (suc a) b =
    le_or_l (suc a) b in grind (arith, nat_tests)
