-- What is looked up by its number, and what is left without it.
use Rattle.std.proofs.Common.{◌≡◌, ◌≢◌, ℕ, suc, ◌+◌, ◌<◌, ◌==◌, ◌⊎◌, Bool, true, false, cond, List}
use Rattle.std.proofs.Common.{[], ◌∷◌, ◌++◌, map, length, Option, Some, None, refl, sym, ap, ◌∙◌}
use Rattle.std.proofs.Common.{inl, inr, ⊎_elim, arith, rules}
use Rattle.std.proofs.lemmas.Bool.Decides.{nat_tests}
use Rattle.std.specs.Prelude.{option_map, IfSome}
use Rattle.aio_word.specs.declared.WaitRef.{WaitRef}
use Rattle.aio_word.specs.Stands.{IsIn}
use Rattle.aio_word.proofs.MoreMarksKeep.{count_at_place, mark_count-more}
use Rattle.method_ring.specs.declared.ring.Entry.{Entry}
use Rattle.method_ring.specs.Numbered.{first_with_number, without_number}
use Rattle.method_ring.specs.Pending.{pending_entry, without_entry}
use Rattle.method_ring.specs.ClaimedIos.{ClaimedIo, claimed_number, claimed_with_number}
use Rattle.method_ring.specs.ClaimedIos.{without_claimed, claimed_entry}
use Rattle.method_ring.specs.ClaimedIos.{claimed_mark, NumbersBelow, ReferencesDiffer}
use Rattle.method_ring.specs.RingRunner.{group_claims}

some-is : {A : Type 0} (x y : A) → Some x ≡ Some y → x ≡ y
some-is x y e = search rules

none-is-not : {A : Type 0} (x : A) → None ≡ Some x → ⊥
none-is-not x e = search rules

pub if-some-then : {A : Type 0} (o : Option A) (P Q : A → Type 0) → ((x : A) → P x → Q x)
    → IfSome o P → IfSome o Q
if-some-then None P Q f p = tt
if-some-then (Some x) P Q f p = f x p

-- the entry that is pending under a number is that of what is held under it
pub entry-of-held : (n : ℕ) (held : List ClaimedIo)
    → pending_entry n (map claimed_entry held) ≡ option_map claimed_entry (claimed_with_number n
    held)
entry-of-held n [] = refl
entry-of-held n (x ∷ xs) = pick (x.0 == n) (entry-of-held n xs)
  where
    pick : (b : Bool) → pending_entry n (map claimed_entry xs)
        ≡ option_map claimed_entry (claimed_with_number n xs)
        → cond b (Some (claimed_entry x)) (pending_entry n (map claimed_entry xs))
        ≡ option_map claimed_entry (cond b (Some x) (claimed_with_number n xs))
    pick true rest = refl
    pick false rest = rest

pub without-entry-of-held : (n : ℕ) (held : List ClaimedIo)
    → without_entry n (map claimed_entry held) ≡ map claimed_entry (without_claimed n held)
without-entry-of-held n [] = refl
without-entry-of-held n (x ∷ xs) = pick (x.0 == n) (without-entry-of-held n xs)
  where
    pick : (b : Bool) → without_entry n (map claimed_entry xs)
        ≡ map claimed_entry (without_claimed n xs)
        → cond b (map claimed_entry xs) (claimed_entry x ∷ without_entry n (map claimed_entry xs))
        ≡ map claimed_entry (cond b xs (x ∷ without_claimed n xs))
    pick true rest = refl
    pick false rest = ap (λ (es : List Entry). claimed_entry x ∷ es) rest

module _ {A : Type 0} (number : A → ℕ) where
  -- what is found stands there, and so does what is left
  pub found-in : (n : ℕ) (xs : List A) (x : A) → first_with_number number n xs ≡ Some x → IsIn x xs
  found-in n [] x e = absurd (none-is-not x e)
  found-in n (y ∷ ys) x e = pick (number y == n) (λ f. found-in n ys x f) e
    where
      pick : (b : Bool) → (first_with_number number n ys ≡ Some x → IsIn x ys)
          → cond b (Some y) (first_with_number number n ys) ≡ Some x → IsIn x (y ∷ ys)
      pick true rest e = inl (some-is y x e)
      pick false rest e = inr (rest e)

  pub rest-in : (n : ℕ) (xs : List A) (x : A) → IsIn x (without_number number n xs) → IsIn x xs
  rest-in n [] x i = i
  rest-in n (y ∷ ys) x i = pick (number y == n) (λ j. rest-in n ys x j) i
    where
      pick : (b : Bool) → (IsIn x (without_number number n ys) → IsIn x ys)
          → IsIn x (cond b ys (y ∷ without_number number n ys)) → IsIn x (y ∷ ys)
      pick true rest i = inr i
      pick false rest i = ⊎_elim (λ e. inl e) (λ r. inr (rest r)) i

pub in-held : (n : ℕ) (held : List ClaimedIo) (x : ClaimedIo) → claimed_with_number n held ≡ Some x
    → IsIn x held
in-held = found-in claimed_number

pub in-without : (n : ℕ) (held : List ClaimedIo) (x : ClaimedIo) → IsIn x (without_claimed n held)
    → IsIn x held
in-without = rest-in claimed_number

-- what stands there after one more
pub in-pushed : {A : Type 0} (xs : List A) (x y : A) → IsIn y (xs ++ x ∷ []) → IsIn y xs ⊎ (x ≡ y)
in-pushed [] x y i = ⊎_elim (λ e. inr e) (λ n. absurd n) i
in-pushed (z ∷ zs) x y i = ⊎_elim (λ e. inl (inl e))
    (λ r. ⊎_elim (λ s. inl (inr s)) (λ e. inr e) (in-pushed zs x y r)) i

not-equal : (a b n : ℕ) → a < b → (a == b) ≡ false
not-equal a b n lt = grind (arith, nat_tests)

-- no number is that many where each is below it
pub none-below : (n : ℕ) (held : List ClaimedIo) → NumbersBelow n held → claimed_with_number n held
    ≡ None
none-below n [] below = refl
none-below n (x ∷ xs) below = ap (λ (b : Bool). cond b (Some x) (claimed_with_number n xs))
    (not-equal x.0 n n (below x (inl refl)))
    ∙ none-below n xs (λ y i. below y (inr i))

pub none-pending : (n : ℕ) (held : List ClaimedIo) → NumbersBelow n held
    → pending_entry n (map claimed_entry held) ≡ None
none-pending n held below =
    entry-of-held n held
    ∙ ap (λ (o : Option ClaimedIo). option_map claimed_entry o) (none-below n held below)

-- the others are other incarnations
pub others-differ : (n : ℕ) (held : List ClaimedIo) (x y : ClaimedIo) → ReferencesDiffer held
    → claimed_with_number n held ≡ Some x → IsIn y (without_claimed n held) → y.1.0 ≢ x.1.0
others-differ n [] x y a e i = absurd i
others-differ n (z ∷ zs) x y a e i =
    pick (z.0 == n) (λ f j. others-differ n zs x y a.1 f j) e i
  where
    pick : (b : Bool)
        → (claimed_with_number n zs ≡ Some x → IsIn y (without_claimed n zs) → y.1.0 ≢ x.1.0)
        → cond b (Some z) (claimed_with_number n zs) ≡ Some x
        → IsIn y (cond b zs (z ∷ without_claimed n zs)) → y.1.0 ≢ x.1.0
    pick true rest e i = let same = some-is z x e in λ same-ref. a.0 y i
        (same-ref ∙ sym (ap (λ (h : ClaimedIo). h.1.0) same))
    pick false rest e i = ⊎_elim
        (λ (is : z ≡ y). λ same-ref. a.0 x (in-held n zs x e)
        (sym same-ref ∙ sym (ap (λ (h : ClaimedIo). h.1.0) is)))
        (λ r. rest e r) i

pub apart-without : (n : ℕ) (held : List ClaimedIo) → ReferencesDiffer held
    → ReferencesDiffer (without_claimed n held)
apart-without n [] a = a
apart-without n (z ∷ zs) a = pick (z.0 == n) (apart-without n zs a.1)
  where
    pick : (b : Bool) → ReferencesDiffer (without_claimed n zs)
        → ReferencesDiffer (cond b zs (z ∷ without_claimed n zs))
    pick true rest = a.1
    pick false rest = ((λ y i. a.0 y (in-without n zs y i)), rest)

-- one more, that differs from each
pub apart-push : (held : List ClaimedIo) (x : ClaimedIo) → ReferencesDiffer held
    → ((y : ClaimedIo) → IsIn y held → y.1.0 ≢ x.1.0) → ReferencesDiffer (held ++ x ∷ [])
apart-push [] x a ne = ((λ y i. absurd i), tt)
apart-push (z ∷ zs) x a ne = (
  (λ y i. ⊎_elim (λ r. a.0 y r) (λ (e : x ≡ y). λ same. ne z (inl refl)
      (sym same ∙ sym (ap (λ (h : ClaimedIo). h.1.0) e))) (in-pushed zs x y i)),
  apart-push zs x a.1 (λ y i. ne y (inr i)),
)

-- how many there are
pub one-fewer : (n : ℕ) (held : List ClaimedIo) (x : ClaimedIo) → claimed_with_number n held
    ≡ Some x
    → length held ≡ suc (length (without_claimed n held))
one-fewer n [] x e = absurd (none-is-not x e)
one-fewer n (z ∷ zs) x e = pick (z.0 == n) (λ f. one-fewer n zs x f) e
  where
    pick : (b : Bool) → (claimed_with_number n zs ≡ Some x
        → length zs ≡ suc (length (without_claimed n zs)))
        → cond b (Some z) (claimed_with_number n zs) ≡ Some x
        → suc (length zs) ≡ suc (length (cond b zs (z ∷ without_claimed n zs)))
    pick true rest e = refl
    pick false rest e = ap (λ (k : ℕ). suc k) (rest e)

-- how often an incarnation stands among them
pub claims-without : (t : WaitRef) (n : ℕ) (held : List ClaimedIo) (x : ClaimedIo)
    → claimed_with_number n held ≡ Some x → count_at_place t 3 (group_claims held)
    ≡ count_at_place t 3 (claimed_mark x ∷ []) + count_at_place t 3
    (group_claims (without_claimed n held))
claims-without t n [] x e = absurd (none-is-not x e)
claims-without t n (z ∷ zs) x e = pick (z.0 == n) (λ f. claims-without t n zs x f) e
  where
    first : count_at_place t 3 (group_claims (z ∷ zs)) ≡ count_at_place t 3 (claimed_mark z ∷ [])
        + count_at_place t 3 (group_claims zs)
    first = mark_count-more t 3 (claimed_mark z ∷ []) (group_claims zs)

    pick : (b : Bool)
        → (claimed_with_number n zs ≡ Some x → count_at_place t 3 (group_claims zs)
        ≡ count_at_place t 3 (claimed_mark x ∷ []) + count_at_place t 3
        (group_claims (without_claimed n zs)))
        → cond b (Some z) (claimed_with_number n zs) ≡ Some x → count_at_place t 3 (group_claims (z
        ∷ zs))
        ≡ count_at_place t 3 (claimed_mark x ∷ []) + count_at_place t 3
        (group_claims (cond b zs (z ∷ without_claimed n zs)))
    pick true rest e = first
        ∙ ap (λ (h : ClaimedIo). count_at_place t 3 (claimed_mark h ∷ []) + count_at_place t 3
        (group_claims zs))
        (some-is z x e)
    pick false rest e =
        let later = rest e in
        let more : count_at_place t 3 (group_claims (z ∷ without_claimed n zs))
        ≡ count_at_place t 3 (claimed_mark z ∷ []) + count_at_place t 3
        (group_claims (without_claimed n zs)) =
        mark_count-more t 3 (claimed_mark z ∷ []) (group_claims (without_claimed n zs)) in
        omega (arith, first)
