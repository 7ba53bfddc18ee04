-- Each step keeps the rule.
use Rattle.std.proofs.Common.{◌≡◌, ℕ, zero, suc, ◌+◌, ◌*◌, ◌/◌, ◌%◌, ◌<◌, ◌⊎◌, List, [], ◌∷◌, ◌++◌}
use Rattle.std.proofs.Common.{slice_index, set, max, sym, refl, ap, ◌∙◌, subst, ⊎_elim, inl, inr}
use Rattle.std.proofs.Common.{append_assoc, arith}
use Rattle.std.proofs.lemmas.Bool.Decides.{eqb_tells, leb_tells}
use Rattle.std.proofs.Math.Nat.{max-eq_left, max-eq_right}
use mathlib.Core.Option.{some, some-injective, some-ne-none}
use lib.ListN.{get_elem?}
use Rattle.atomic_table.specs.Table.{Me, keeps, Allows, Splits}
use Rattle.atomic_table.proofs.Lists.{set_else}
use Rattle.method_worker.specs.declared.log.Notes.{Notes}
use Rattle.method_worker.specs.ClosingWord.{word_notes, ListHas, SomeSeatClosed}
use Rattle.method_worker.specs.ClosingWord.{ClosingWordHasCloser}
use Rattle.method_worker.specs.ClosingWord.{ClosingWordIsLawful}

here : {A : Type 0} (l : List A) (i : ℕ) (v w : A) → get_elem? l i ≡ some v
    → get_elem? (set l i w) i ≡ some w
here [] i v w at = absurd (some-ne-none v (sym at))
here (x ∷ xs) zero v w at = refl
here (x ∷ xs) (suc i) v w at = here xs i v w at

-- a seat whose list of closes only grows leaves what was closed
stays : (views : List Notes) (id : ℕ) (v w : Notes) (q : ℕ) → get_elem? views id ≡ some v
    → (ListHas v.closes q → ListHas w.closes q) → SomeSeatClosed views q
    → SomeSeatClosed (set views id w) q
stays views id v w q at grows c =
    ⊎_elim
    (λ t. let same : c.1 ≡ v = some-injective _ _ (sym c.2 ∙ (ap (λ j. get_elem? views j) t.1 ∙ at))
    in (id, w, here views id v w at, grows (subst (λ (y : Notes). ListHas y.closes q) same c.3)))
    (λ t. (c.0, c.1, set_else views id c.0 w t.1 ∙ c.2, c.3)) (eqb_tells c.0 id)

more : (xs : List ℕ) (n q : ℕ) → ListHas xs q → ListHas (xs ++ n ∷ []) q
more xs n q k = (
  k.0,
  k.1 ++ n ∷ [],
  ap (λ l. l ++ n ∷ []) k.2
      ∙ append_assoc k.0 (q ∷ k.1) (n ∷ []),
)

-- the first word after it was set, if there is one
word_set : (ws : List ℕ) (x : ℕ) → (slice_index (set ws 0 x) 0 ≡ x)
    ⊎ (slice_index (set ws 0 x) 0 ≡ 0)
word_set [] x = inr refl
word_set (w ∷ ws) x = inl refl

word_same : (ws : List ℕ) → slice_index (set ws 0 (slice_index ws 0)) 0 ≡ slice_index ws 0
word_same [] = refl
word_same (w ∷ ws) = refl

word_other : (ws : List ℕ) (i x : ℕ) → 0 < i → slice_index (set ws i x) 0 ≡ slice_index ws 0
word_other [] i x after = refl
word_other (w ∷ ws) zero x after = absurd (omega (arith, after))
word_other (w ∷ ws) (suc i) x after = refl

abbrev Odd : ℕ → List Notes → Type 0
Odd n views = n % 2 ≡ 1 → SomeSeatClosed views (n / 2)

pub loads : {S : Type 0} (slots id : ℕ) (me : Me S Notes)
    → Allows ClosingWordIsLawful slots id me 0 (λ n. n)
    (λ n w. (w ≡ (word_notes me.0.closes (me.0.loads ++ n ∷ []), me.1))
    × (n % 2 ≡ 1 → ClosingWordHasCloser w.0 n))
loads slots id me s kept homes at small =
    let n = slice_index s.words 0 in
    let w : Notes = word_notes me.0.closes (me.0.loads ++ n ∷ []) in
    let after : Odd n (set s.views id w) =
    λ odd. stays s.views id me.0 w (n / 2) at (λ k. k) (kept odd) in (
      w,
      keeps,
      tt,
      subst (λ k. Odd k (set s.views id w)) (sym (word_same s.words)) after,
      (refl, λ odd. (set s.views id w, id, here s.views id me.0 w at, after odd)),
    )

-- a step on another word
pub others : {S : Type 0} (slots id : ℕ) (me : Me S Notes) (i : ℕ) (f : ℕ → ℕ) → 0 < i
    → Allows ClosingWordIsLawful slots id me i f (λ n w. w ≡ me)
others slots id me i f after s kept homes at small = (
  me.0,
  keeps,
  tt,
  subst (λ k. Odd k (set s.views id me.0)) (sym (word_other s.words i _ after))
      (λ odd. stays s.views id me.0 me.0 (slice_index s.words 0 / 2) at (λ k. k) (kept odd)),
  refl,
)

-- an even word needs no close
pub opens : {S : Type 0} (slots id number : ℕ) (me : Me S Notes)
    → Allows ClosingWordIsLawful slots id me 0 (λ _. number * 2) (λ _ w. w ≡ me)
opens slots id number me s kept homes at small =
    let vs : List Notes = set s.views id me.0 in
    let even : Odd (number * 2) vs = λ odd. absurd (omega (arith, odd)) in
    let none : Odd 0 vs = λ odd. absurd (omega (arith, odd)) in (
      me.0,
      keeps,
      tt,
      ⊎_elim (λ e. subst (λ j. Odd j vs) (sym e) even) (λ e. subst (λ j. Odd j vs) (sym e) none)
          (word_set s.words (number * 2)),
      refl,
    )

-- the larger of two numbers is one of them
max_is : (a b : ℕ) → (max a b ≡ a) ⊎ (max a b ≡ b)
max_is a b =
    ⊎_elim (λ t. inr (max-eq_right t.1)) (λ t. let less =
    t.1 in inl (max-eq_left (omega (arith, less)))) (leb_tells a b)

pub closes : {S : Type 0} (slots id number : ℕ) (me : Me S Notes)
    → Allows ClosingWordIsLawful slots id me 0 (λ n. max n (number * 2 + 1)) (λ n w. (w
    ≡ (word_notes (me.0.closes ++ (number * 2 + 1) / 2 ∷ []) me.0.loads, me.1))
    × ((number * 2 + 1) % 2 ≡ 1))
closes slots id number me s kept homes at small =
    let n = slice_index s.words 0 in
    let k = number * 2 + 1 in
    let w : Notes = word_notes (me.0.closes ++ k / 2 ∷ []) me.0.loads in
    let vs : List Notes = set s.views id w in
    let mine : Odd k vs = λ odd. (id, w, here s.views id me.0 w at, (me.0.closes, [], refl)) in
    let theirs : Odd n vs =
    λ odd. stays s.views id me.0 w (n / 2) at (λ q. more me.0.closes (k / 2) (n / 2) q)
    (kept odd) in
    let none : Odd 0 vs = λ odd. absurd (omega (arith, odd)) in
    let larger : Odd (max n k) vs =
    ⊎_elim (λ e. subst (λ j. Odd j vs) (sym e) theirs) (λ e. subst (λ j. Odd j vs) (sym e) mine)
    (max_is n k) in
    let after : Odd (slice_index (set s.words 0 (max n k)) 0) vs =
    ⊎_elim (λ e. subst (λ j. Odd j vs) (sym e) larger) (λ e. subst (λ j. Odd j vs) (sym e) none)
    (word_set s.words (max n k)) in
    (w, keeps, tt, after, (refl, omega arith))

-- what stood in a list stands there when one more is put behind it
before : {A : Type 0} (l : List A) (x : A) (i : ℕ) (v : A) → get_elem? l i ≡ some v
    → get_elem? (l ++ x ∷ []) i ≡ some v
before [] x i v at = absurd (some-ne-none v (sym at))
before (y ∷ l) x zero v at = at
before (y ∷ l) x (suc i) v at = before l x i v at

pub splits : {S : Type 0} (id : ℕ) (v : Notes)
    → Splits (ClosingWordIsLawful {S = S}) id v v (word_notes [] [])
splits id v s kept at = λ odd.
    let c = stays s.views id v v (slice_index s.words 0 / 2) at (λ k. k) (kept odd) in
    (c.0, c.1, before (set s.views id v) (word_notes [] []) c.0 c.1 c.2, c.3)
