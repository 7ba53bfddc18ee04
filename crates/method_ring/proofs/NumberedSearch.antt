-- What is found by its number while a list is gone through, and what a ring picks.
use Rattle.std.proofs.Common.{◌≡◌, ◌≢◌, ℕ, zero, suc, ◌+◌, ◌<◌, ◌==◌, Bool, true, false, cond, List}
use Rattle.std.proofs.Common.{[], ◌∷◌, ◌++◌, length, take, drop, get_or, Some, None, refl, sym, ap}
use Rattle.std.proofs.Common.{◌∙◌, arith, rules, append_assoc, append-nil, ◌≤◌}
use Rattle.std.proofs.lemmas.List.{drop_more, take_more, at_drop_all, take_all}
use Rattle.std.proofs.lemmas.Bool.Decides.{nat_tests}
use Rattle.method_ring.specs.declared.ring.Entry.{Entry}
use Rattle.method_ring.specs.Numbered.{first_with_number, without_number}
use Rattle.method_ring.specs.Pending.{pending_entry}

none-is-not : {A : Type 0} (x : A) → Some x ≡ None → ⊥
none-is-not x e = search rules

equal-to : (a b : ℕ) → a ≡ b → (a == b) ≡ true
equal-to a b e = grind (arith, nat_tests)

not-equal : (a b : ℕ) → a ≢ b → (a == b) ≡ false
not-equal a b ne = grind (arith, nat_tests)

drop-is : {A : Type 0} (xs : List A) (i : ℕ) (x : A) → i < length xs → x ≡ get_or xs i x
    → drop i xs ≡ x ∷ drop (i + 1) xs
drop-is xs i x lt is = drop_more xs i x lt ∙ ap (λ z. z ∷ drop (i + 1) xs) (sym is)

module _ {A : Type 0} (number : A → ℕ) (n : ℕ) (xs : List A) where
  -- one element that has another number
  pub first-later : (i : ℕ) (x : A) → i < length xs → x ≡ get_or xs i x → number x ≢ n
      → first_with_number number n (drop i xs) ≡ first_with_number number n (drop (i + 1) xs)
  first-later i x lt is other = ap (λ ys. first_with_number number n ys) (drop-is xs i x lt is)
      ∙ ap (λ (b : Bool). cond b (Some x) (first_with_number number n (drop (i + 1) xs)))
      (not-equal (number x) n other)

  pub others-later : (i : ℕ) (x : A) → i < length xs → x ≡ get_or xs i x → number x ≢ n
      → take i xs ++ without_number number n (drop i xs)
      ≡ take (i + 1) xs ++ without_number number n (drop (i + 1) xs)
  others-later i x lt is other =
      let rest = without_number number n (drop (i + 1) xs) in
      let one : without_number number n (drop i xs) ≡ x ∷ rest =
      ap (λ ys. without_number number n ys) (drop-is xs i x lt is)
      ∙ ap (λ (b : Bool). cond b (drop (i + 1) xs) (x ∷ rest)) (not-equal (number x) n other) in
      let more : take (i + 1) xs ≡ take i xs ++ x ∷ [] =
      take_more xs i x lt ∙ ap (λ z. take i xs ++ z ∷ []) (sym is) in
      ap (λ ys. take i xs ++ ys) one ∙ (sym (append_assoc (take i xs) (x ∷ []) rest)
      ∙ ap (λ ys. ys ++ rest) (sym more))

  -- the first element with the number
  pub first-here : (i : ℕ) (x : A) → i < length xs → x ≡ get_or xs i x → number x ≡ n
      → first_with_number number n (drop i xs) ≡ Some x
  first-here i x lt is same = ap (λ ys. first_with_number number n ys) (drop-is xs i x lt is)
      ∙ ap (λ (b : Bool). cond b (Some x) (first_with_number number n (drop (i + 1) xs)))
      (equal-to (number x) n same)

  pub others-here : (i : ℕ) (x : A) → i < length xs → x ≡ get_or xs i x → number x ≡ n
      → without_number number n (drop i xs) ≡ drop (i + 1) xs
  others-here i x lt is same = ap (λ ys. without_number number n ys) (drop-is xs i x lt is)
      ∙ ap (λ (b : Bool). cond b (drop (i + 1) xs) (x ∷ without_number number n (drop (i + 1) xs)))
      (equal-to (number x) n same)

  -- nothing is there from the end on
  pub first-end : (i : ℕ) → length xs ≤ i → first_with_number number n (drop i xs) ≡ None
  first-end i le = at_drop_all (λ ys. first_with_number number n ys) xs i le

  pub others-end : (i : ℕ) → length xs ≤ i
      → take i xs ++ without_number number n (drop i xs) ≡ xs
  others-end i le = ap (λ ys. take i xs ++ ys) (at_drop_all (λ ys. without_number number n ys) xs i
      le)
      ∙ (append-nil (take i xs) ∙ take_all i xs le)

-- an entry of the list is found by its number
pub found-at : (es : List Entry) (i : ℕ) (d : Entry) → i < length es
    → pending_entry (get_or es i d).user es ≢ None
found-at [] i d lt e = absurd (omega arith)
found-at (x ∷ xs) zero d lt e = none-is-not x
    (sym (ap (λ (b : Bool). cond b (Some x) (pending_entry x.user xs))
    (equal-to x.user x.user refl))
    ∙ e)
found-at (x ∷ xs) (suc i) d lt e =
    pick (x.user == (get_or xs i d).user) (found-at xs i d (omega arith)) e
  where
    pick : (b : Bool) → pending_entry (get_or xs i d).user xs ≢ None
        → cond b (Some x) (pending_entry (get_or xs i d).user xs) ≡ None → ⊥
    pick true rest e = none-is-not x e
    pick false rest e = rest e
