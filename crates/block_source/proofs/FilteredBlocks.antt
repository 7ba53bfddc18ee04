-- A filter of a list at its first element.
use Rattle.std.proofs.Common.{◌≡◌, ℕ, Bool, true, false, List, ◌∷◌, filter}

module _ {P : Type 0} (accepts : ℕ → Bool) (first : ℕ × P) (before after : List (ℕ × P)) where
  abbrev kept : List (ℕ × P) → List (ℕ × P)
  kept = filter (λ b. accepts b.0)

  pub first_accepted : before ≡ first ∷ after → true ≡ accepts first.0 →
      kept before ≡ first ∷ kept after
  first_accepted is takes = rw (is, ← takes)

  pub first_refused : before ≡ first ∷ after → false ≡ accepts first.0 →
      kept before ≡ kept after
  first_refused is drops = rw (is, ← drops)
