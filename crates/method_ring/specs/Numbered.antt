-- Lists whose elements are looked up by a number.
use Rattle.std.specs.Prelude.{ℕ, ◌==◌, cond, List, [], ◌∷◌, Option, Some, None}

-- the first of these elements with the number
abbrev pub first_with_number : {A : Type 0} → (A → ℕ) → ℕ → List A → Option A
first_with_number number n [] = None
first_with_number number n (x ∷ xs) = cond (number x == n) (Some x) (first_with_number number n xs)

-- these elements without the first one that has the number
abbrev pub without_number : {A : Type 0} → (A → ℕ) → ℕ → List A → List A
without_number number n [] = []
without_number number n (x ∷ xs) = cond (number x == n) xs (x ∷ without_number number n xs)
