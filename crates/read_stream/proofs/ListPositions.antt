-- What stands at a place of a list.
use Rattle.std.proofs.Common.{◌≡◌, ℕ, ◌+◌, ◌≤◌, zero, suc, List, [], ◌∷◌}
use Rattle.std.proofs.Common.{length, map, drop, ap, ◌∙◌, arith}
use Rattle.std.specs.Prelude.{Some, slice_get}

-- where what is left of a list begins with x, x is its element there
pub here-at : {X : Type 0} (xs : List X) (k : ℕ) (x : X) (ys : List X) → drop k xs ≡ x ∷ ys
    → slice_get xs k ≡ Some x
here-at [] zero x ys e = absurd (cc)
here-at [] (suc k) x ys e = absurd (cc)
here-at (z ∷ xs) zero x ys e = cc
here-at (z ∷ xs) (suc k) x ys e = here-at xs k x ys e

behind-at : {X : Type 0} (xs : List X) (k : ℕ) (x : X) (ys : List X) → drop k xs ≡ x ∷ ys
    → drop (suc k) xs ≡ ys
behind-at [] zero x ys e = absurd (cc)
behind-at [] (suc k) x ys e = absurd (cc)
behind-at (z ∷ xs) zero x ys e = cc
behind-at (z ∷ xs) (suc k) x ys e = behind-at xs k x ys e

pub rest-at : {X : Type 0} (xs : List X) (k : ℕ) (x : X) (ys : List X) → drop k xs ≡ x ∷ ys
    → drop (k + 1) xs ≡ ys
rest-at {X} xs k x ys e = let n : k + 1 ≡ suc k = omega arith in
    ap (λ (i : ℕ). drop i xs) n ∙ behind-at xs k x ys e

pub below-at : {X : Type 0} (xs : List X) (k : ℕ) (x : X) (ys : List X) → drop k xs ≡ x ∷ ys
    → k + 1 ≤ length xs
below-at [] zero x ys e = absurd (cc)
below-at [] (suc k) x ys e = absurd (cc)
below-at (z ∷ xs) zero x ys e = omega arith
below-at (z ∷ xs) (suc k) x ys e = let i = below-at xs k x ys e in omega arith

pub none-at : {X : Type 0} (xs : List X) (k : ℕ) → drop k xs ≡ [] → length xs ≤ k
none-at [] zero e = omega arith
none-at [] (suc k) e = omega arith
none-at (z ∷ xs) zero e = absurd (cc)
none-at (z ∷ xs) (suc k) e = let i = none-at xs k e in omega arith

pub mapped-at : {X Y : Type 0} (f : X → Y) (xs : List X) (k : ℕ) (x : X)
    → slice_get xs k ≡ Some x → slice_get (map f xs) k ≡ Some (f x)
mapped-at f [] zero x e = absurd (cc)
mapped-at f [] (suc k) x e = absurd (cc)
mapped-at f (z ∷ xs) zero x e = cc
mapped-at f (z ∷ xs) (suc k) x e = mapped-at f xs k x e
