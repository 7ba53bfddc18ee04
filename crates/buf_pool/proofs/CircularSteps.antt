-- Going once round a list from some place on.
use Rattle.std.proofs.Common.{◌≡◌, ℕ, ◌+◌, ◌-◌, ◌%◌, ◌<◌, ◌≤◌, arith, ⊎_elim, ◌∙◌, ap, subst}
use Rattle.std.proofs.Math.Nat.{mod-eq_of_lt, add-mod_right}
use Rattle.std.proofs.lemmas.Bool.{cases_lt}

-- each place is reached from each other in fewer steps than there are places
pub round_reaches : (n start at : ℕ) → start < n → at < n → (step : ℕ) × (step < n) ×
    ((start + step) % n ≡ at)
round_reaches n start at s a =
    ⊎_elim
    (λ (below : at < start).
    let e : start + (at + n - start) ≡ at + n = omega arith in
    (at + n - start, omega arith, ap (λ x. x % n) e ∙ add-mod_right at n ∙ mod-eq_of_lt a))
    (λ (above : start ≤ at).
    let e : start + (at - start) ≡ at = omega arith in
    (at - start, omega arith, ap (λ x. x % n) e ∙ mod-eq_of_lt a))
    (cases_lt at start)

-- what holds at each step of a round holds at each place
pub all_round : (P : ℕ → Type 0) (n start : ℕ) → start < n → ((step : ℕ) → step < n → P
    ((start + step) % n)) → (at : ℕ) → at < n → P at
all_round P n start s h at a =
    let r : (step : ℕ) × (step < n) × ((start + step) % n ≡ at) = round_reaches n start at s a in
    let family : ℕ → Type 0 = P in
    subst family r.2 (h r.0 r.1)
