-- Logs that take more entries.
use Rattle.std.proofs.Common.{◌≡◌, ℕ, zero, suc, List, [], ◌∷◌, ◌++◌, take, refl, ap}

-- what is left out of a log first is left out of it later too
pub take-take_append : {X : Type 0} (room : ℕ) (xs ys : List X)
    → take room (take room xs ++ ys) ≡ take room (xs ++ ys)
take-take_append zero xs ys = refl
take-take_append (suc room) [] ys = refl
take-take_append (suc room) (x ∷ xs) ys = ap (λ rest. x ∷ rest) (take-take_append room xs ys)
