-- Sums and members of a list in which one element is replaced.
use Rattle.std.proofs.Common.{◌≡◌, ◌≢◌, ℕ, zero, suc, ◌+◌, ◌≤◌, ◌⊎◌, List, [], ◌∷◌, ◌++◌, set}
use Rattle.std.proofs.Common.{sum_by, refl, sym, ap, inl, inr, ⊎_elim, arith}
use Rattle.std.proofs.lemmas.List.Sums.{sum_by-cons, sum_by-append}
use mathlib.Core.Option.{some, some-injective, some-ne-none}
use lib.ListN.{get_elem?}
use Rattle.aio_word.specs.Stands.{IsIn}

module _ {A : Type 0} where
  pub in-append : (x : A) (xs ys : List A) → IsIn x (xs ++ ys) → IsIn x xs ⊎ IsIn x ys
  in-append x [] ys h = inr h
  in-append x (y ∷ xs) ys h =
      ⊎_elim (λ e. inl (inl e))
      (λ t. ⊎_elim (λ l. inl (inr l)) (λ r. inr r) (in-append x xs ys t)) h

  pub in-left : (x : A) (xs ys : List A) → IsIn x xs → IsIn x (xs ++ ys)
  in-left x [] ys h = absurd h
  in-left x (y ∷ xs) ys h = ⊎_elim inl (λ t. inr (in-left x xs ys t)) h

  pub in-right : (x : A) (xs ys : List A) → IsIn x ys → IsIn x (xs ++ ys)
  in-right x [] ys h = h
  in-right x (y ∷ xs) ys h = inr (in-right x xs ys h)

  -- a member after one element was replaced is the new one, or was a member before
  pub in-replaced : (a b : List A) (p p' q : A) → IsIn q (a ++ p' ∷ b)
      → (p' ≡ q) ⊎ IsIn q (a ++ p ∷ b)
  in-replaced a b p p' q h =
      ⊎_elim (λ l. inr (in-left q a (p ∷ b) l))
      (λ r. ⊎_elim inl (λ t. inr (in-right q a (p ∷ b) (inr t))) r) (in-append q a (p' ∷ b) h)

  pub in-here : (a b : List A) (p : A) → IsIn p (a ++ p ∷ b)
  in-here a b p = in-right p a (p ∷ b) (inl refl)

  pub sum-replaced : (f : A → ℕ) (a b : List A) (p p' : A)
      → sum_by f (a ++ p' ∷ b) + f p ≡ sum_by f (a ++ p ∷ b) + f p'
  sum-replaced f a b p p' =
      omega (
        arith,
        sum_by-append f a (p ∷ b),
        sum_by-append f a
            (p' ∷ b),
        sum_by-cons f p b,
        sum_by-cons f p' b,
      )

  pub sum-in : (f : A → ℕ) (xs : List A) (x : A) → IsIn x xs → f x ≤ sum_by f xs
  sum-in f [] x h = absurd h
  sum-in f (y ∷ xs) x h = ⊎_elim (λ e. let here : f y ≡ f x = ap f e in
      omega (arith, sum_by-cons f y xs)) (λ t. let there = sum-in f xs x t in
      omega (arith, sum_by-cons f y xs)) h

  -- an element after one was set is the new one, or was there before at another place
  pub at-set : (l : List A) (i j : ℕ) (a b : A) → get_elem? (set l i a) j ≡ some b
      → ((j ≡ i) × (a ≡ b)) ⊎ ((j ≢ i) × (get_elem? l j ≡ some b))
  at-set [] i j a b e = absurd (some-ne-none b (sym e))
  at-set (x ∷ xs) zero zero a b e = inl (refl, some-injective a b e)
  at-set (x ∷ xs) zero (suc j) a b e = inr ((λ h. omega arith), e)
  at-set (x ∷ xs) (suc i) zero a b e = inr ((λ h. omega arith), e)
  at-set (x ∷ xs) (suc i) (suc j) a b e = ⊎_elim (λ t. inl (ap suc t.0, t.1)) (λ t. let n = t.0 in
      inr ((λ h. n (omega arith)), t.1)) (at-set xs i j a b e)
