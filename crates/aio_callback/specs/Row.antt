-- The pages of a record, by those that are there: zeros before it is used.
use Rattle.std.specs.Prelude.{ℕ, List, [], ◌∷◌, replicate}

abbrev pub row_of : ℕ → List (List ℕ) → List (List ℕ)
row_of room [] = replicate room (replicate 8192 0)
row_of room (first ∷ others) = first ∷ others
