-- Counts of a list's elements that pass a test.
use Rattle.std.proofs.Common.{◌≡◌, ℕ, suc, ◌+◌, ◌<◌, ◌≤◌, ⊎_elim, Bool, true, false, cond}
use Rattle.std.proofs.Common.{List, [], ◌∷◌, length, get_or, set, refl, arith, count_by, ◌∙◌, ap}
use Rattle.std.proofs.lemmas.List.Sums.{sum_by-set, sum_by-cons}
use Rattle.std.proofs.lemmas.Bool.{false≢true}

-- where no element passes the count is 0
pub count_none : {X : Type 0} (p : X → Bool) (d : X) (xs : List X) →
    ((k : ℕ) → k < length xs → p (get_or xs k d) ≡ false) → count_by p xs ≡ 0
count_none p d [] h = refl
count_none p d (x ∷ xs) h =
    let here : p x ≡ false = h 0 (omega arith) in
    let rest : count_by p xs ≡ 0 = count_none p d xs (λ k b. h (suc k) (omega arith)) in
    let split : count_by p (x ∷ xs) ≡ cond (p x) 1 0 + count_by p xs = sum_by-cons
    (λ y. cond (p y) 1 0) x xs in
    let none : count_by p (x ∷ xs) ≡ cond false 1 0 + count_by p xs = split ∙ ap
    (λ (b : Bool). cond b 1 0 + count_by p xs) here in
    omega arith

first : (b : Bool) (n : ℕ) → cond b 1 0 + n ≡ 0 → b ≡ false
first true n e = absurd (omega arith)
first false n e = refl

-- the count after a write
pub counted_after : {X : Type 0} (p : X → Bool) (d : X) (xs : List X) (i : ℕ) (y : X) (old new : ℕ)
    → i < length xs → old ≡ count_by p xs
    → new + cond (p (get_or xs i d)) 1 0 ≡ old + cond (p y) 1 0 → new ≡ count_by p (set xs i y)
counted_after p d xs i y old new b counted e =
    let f : count_by p (set xs i y) + cond (p (get_or xs i d)) 1 0 ≡ count_by p xs + cond (p y) 1 0
    = sum_by-set (λ x. cond (p x) 1 0) xs i y d b in
    omega arith
