-- What the list of an owner or of a claimer tells of the word.
use Rattle.std.proofs.Common.{◌≡◌, ℕ, ◌+◌, ◌*◌, ◌<◌, ◌≤◌, ◌⊎◌, ◌==◌, List, [], ◌∷◌, ◌++◌, sum_by}
use Rattle.std.proofs.Common.{refl, sym, ap, ◌∙◌, subst, inl, inr, ⊎_elim, arith}
use Rattle.std.proofs.lemmas.List.Sums.{sum_by-cons, sum_by-append}
use Rattle.std.proofs.lemmas.Bool.Decides.{nat_tests}
use mathlib.Core.Logic.{dite}
use native.Mathlib.Decide.{ℕ_discrete, dec_le}
use Rattle.aio_word.specs.declared.Config.{Config}
use Rattle.aio_word.specs.declared.Kind.{Kind}
use Rattle.aio_word.specs.declared.Kind.TheVariants as kind
use Rattle.aio_word.specs.declared.Mark.{Mark}
use Rattle.aio_word.specs.declared.Word.{Word}
use Rattle.aio_word.specs.declared.Known.{Known}
use Rattle.aio_word.specs.Words.{word_rank}
use Rattle.aio_word.specs.Events.{owner, kind_place, mark_rank, is_mark, count_at_rank}
use Rattle.aio_word.specs.Stands.{IsIn, IsOwnerKind, one_if, IsLawfulList}
use Rattle.aio_word.specs.StandsByRank.{is_due, StandsForHandleByRank}
use Rattle.aio_word.proofs.ReplacedElement.{in-append, in-here, sum-in}
use Rattle.aio_word.proofs.AppendKeepsHandle.{rank-in-bounds}
use Rattle.aio_word.proofs.MarksDue.{one-if-le, number-itself, due-one}

-- some element counts
pub record HasCounted {A : Type 0} (f : A → ℕ) (xs : List A) : Type 0 where
  pub it : A
  pub within : IsIn it xs
  pub more : 0 < f it

pub has-counted : {A : Type 0} (f : A → ℕ) (xs : List A) → 0 < sum_by f xs → HasCounted f xs
has-counted f [] h = absurd (omega arith)
has-counted f (x ∷ xs) h = dite (ℕ_discrete (f x) 0)
    (λ e. let c = sum_by-cons f x xs in let r = has-counted f xs (omega arith) in
    record { it = r.it; within = inr r.within; more = r.more })
    (λ n. record { it = x; within = inl refl; more = omega arith })

pub is-that : (h n : ℕ) (m : Mark) → 0 < one_if (is_mark h n m)
    → (m.handle ≡ h) × (mark_rank m ≡ n)
is-that h n m lt = grind (arith, nat_tests)

owner-kinds : (k : Kind) → (kind_place k < 3) ⊎ (5 < kind_place k) → IsOwnerKind k
owner-kinds kind.Defined h = tt
owner-kinds kind.Staged h = tt
owner-kinds kind.Submitted h = tt
owner-kinds kind.Claimed h = ⊎_elim (λ x. absurd (omega arith)) (λ x. absurd (omega arith)) h
owner-kinds (kind.Io c) h = ⊎_elim (λ x. absurd (omega arith)) (λ x. absurd (omega arith)) h
owner-kinds kind.Shared h = ⊎_elim (λ x. absurd (omega arith)) (λ x. absurd (omega arith)) h
owner-kinds (kind.Local c) h = tt
owner-kinds kind.Reclaimed h = tt

pub kind_place-small : (k : Kind) → kind_place k < 8
kind_place-small kind.Defined = omega arith
kind_place-small kind.Staged = omega arith
kind_place-small kind.Submitted = omega arith
kind_place-small kind.Claimed = omega arith
kind_place-small (kind.Io c) = omega arith
kind_place-small kind.Shared = omega arith
kind_place-small (kind.Local c) = omega arith
kind_place-small kind.Reclaimed = omega arith

next-kinds : (i : ℕ) → (i < 2) ⊎ (4 < i) → (i + 1 < 3) ⊎ (5 < i + 1)
next-kinds i h = ⊎_elim (λ x. inl (omega arith)) (λ x. inr (omega arith)) h

-- two lists in which f counts are one, where f counts at most one
pub sole : (f : Known → ℕ) (a b : List Known) (p q : Known) → sum_by f (a ++ p ∷ b) ≤ 1 → 0 < f p
    → 0 < f q → IsIn q (a ++ p ∷ b) → p ≡ q
sole f a b p q one fp fq i = ⊎_elim
    (λ l. absurd (let x : f q ≤ sum_by f a = sum-in f a q l in
    omega (arith, sum_by-append f a (p ∷ b), sum_by-cons f p b)))
    (λ r. ⊎_elim (λ e. e) (λ t. absurd (let x : f q ≤ sum_by f b = sum-in f b q t in
    omega (arith, sum_by-append f a (p ∷ b), sum_by-cons f p b))) r)
    (in-append q a (p ∷ b) i)

module _ (c : Config) (a b : List Known) (p : Known) (h : ℕ) (w : Word)
    (s : StandsForHandleByRank c (a ++ p ∷ b) h w) where
  -- a mark that is due stands in some list
  due-stands : (n : ℕ) → 8 * c.start ≤ n → n < word_rank w
      → HasCounted (λ (q : Known). count_at_rank h n q.marks) (a ++ p ∷ b)
  due-stands n lo hi = has-counted (λ (q : Known). count_at_rank h n q.marks) (a ++ p ∷ b) (let t =
      s.counted n in let one = due-one c.start (word_rank w) n lo hi in omega arith)

  module _ (lists : (q : Known) → IsIn q (a ++ p ∷ b)
      → IsLawfulList c q) (distinct_numbers : sum_by (λ (q : Known). one_if (q.number == p.number))
      (a ++ p ∷ b) ≤ 1) (own : p.number ≡ owner c h) where
    -- an owner's mark that is due stands in the owner's list
    owner-has : (g i : ℕ) → i < 8 → (i < 3) ⊎ (5 < i) → 8 * c.start ≤ 8 * g + i
        → 8 * g + i < word_rank w → 0 < count_at_rank h (8 * g + i) p.marks
    owner-has g i small kinds lo hi =
        let t = due-stands (8 * g + i) lo hi in
        let m = has-counted (λ (x : Mark). one_if (is_mark h (8 * g + i) x)) t.it.marks t.more in
        let that = is-that h (8 * g + i) m.it m.more in
        let ord : kind_place m.it.kind ≡ i = let o = kind_place-small m.it.kind in
        let r : 8 * m.it.generation + kind_place m.it.kind ≡ 8 * g + i = that.1 in omega arith in
        let number : t.it.number ≡ p.number =
        (lists t.it t.within).in_owner_list m.it m.within
        (owner-kinds m.it.kind (subst (λ (z : ℕ). (z < 3) ⊎ (5 < z)) (sym ord) kinds))
        ∙ (ap (owner c) that.0 ∙ sym own) in
        let f : Known → ℕ = λ q. one_if (q.number == p.number) in
        let fq : f t.it ≡ 1 = ap (λ (z : ℕ). one_if (z == p.number)) number
        ∙ number-itself p.number in
        let fp : f p ≡ 1 = number-itself p.number in
        let same : p ≡ t.it = sole f a b p t.it distinct_numbers (omega arith) (omega arith) t.within in
        subst (λ (z : Known). 0 < count_at_rank h (8 * g + i) z.marks) (sym same) t.more

    -- the owner's mark at i stands, and the next does not: so the word is just there
    pub owner-at : (g i : ℕ) → i < 7 → (i < 2) ⊎ (4 < i) → 0 < count_at_rank h (8 * g + i) p.marks
        → count_at_rank h (8 * g + (i + 1)) p.marks ≡ 0 → word_rank w ≡ 8 * g + (i + 1)
    owner-at g i small kinds since until =
        let st = rank-in-bounds c (a ++ p ∷ b) h w s p (in-here a b p) (8 * g + i) since in
        let lo = st.0 in
        let hi = st.1 in
        dite (dec_le (word_rank w) (8 * g + (i + 1))) (λ le. omega arith)
        (λ n. absurd (let has : 0 < count_at_rank h (8 * g + (i + 1)) p.marks =
        owner-has g (i + 1) (omega arith) (next-kinds i kinds) (omega arith) (omega arith) in
        omega arith))

    -- where an owner's mark does not stand, the word is not past it
    pub owner-below : (g i : ℕ) → i < 8 → (i < 3) ⊎ (5 < i) → 8 * c.start ≤ 8 * g + i
        → count_at_rank h (8 * g + i) p.marks ≡ 0 → word_rank w ≤ 8 * g + i
    owner-below g i small kinds lo until = dite (dec_le (word_rank w) (8 * g + i)) (λ le. le)
        (λ n. absurd (let has : 0 < count_at_rank h (8 * g + i) p.marks =
        owner-has g i small kinds lo (omega arith) in omega arith))

  -- where the claimer's Shared mark does not stand, the word is not past it
  pub claimer-below : (g : ℕ) → 0 < count_at_rank h (8 * g + 3) p.marks
      → count_at_rank h (8 * g + 5) p.marks ≡ 0
      → word_rank w ≤ 8 * g + 5
  claimer-below g since until =
      let st = rank-in-bounds c (a ++ p ∷ b) h w s p (in-here a b p) (8 * g + 3) since in
      let lo = st.0 in
      let hi = st.1 in
      dite (dec_le (word_rank w) (8 * g + 5)) (λ le. le)
      (λ n. absurd (
      let t = due-stands (8 * g + 5) (omega arith) (omega arith) in
      let f : Known → ℕ = λ q. count_at_rank h (8 * g + 3) q.marks in
      let all : sum_by f (a ++ p ∷ b) ≡ one_if (is_due c.start (word_rank w) (8 * g + 3)) =
      s.counted (8 * g + 3) in
      let one : one_if (is_due c.start (word_rank w) (8 * g + 3)) ≤ 1 =
      one-if-le (is_due c.start (word_rank w) (8 * g + 3)) in
      let le : count_at_rank h (8 * g + 5) t.it.marks ≤ f t.it = (s.claimed t.it t.within g).1 in
      let same : p ≡ t.it = sole f a b p t.it (omega arith) since (let m = t.more in
      omega arith) t.within in
      let has : 0 < count_at_rank h (8 * g + 5) p.marks =
      subst (λ (z : Known). 0 < count_at_rank h (8 * g + 5) z.marks) (sym same) t.more in
      omega arith))

  -- the claimer's mark stands, and its Io mark does not
  pub claimer-at : (g : ℕ) → 0 < count_at_rank h (8 * g + 3) p.marks
      → count_at_rank h (8 * g + 4) p.marks ≡ 0
      → word_rank w ≡ 8 * g + 4
  claimer-at g since until =
      let st = rank-in-bounds c (a ++ p ∷ b) h w s p (in-here a b p) (8 * g + 3) since in
      let lo = st.0 in
      let hi = st.1 in
      dite (dec_le (word_rank w) (8 * g + 4)) (λ le. omega arith)
      (λ n. absurd (
      let t = due-stands (8 * g + 4) (omega arith) (omega arith) in
      let f : Known → ℕ = λ q. count_at_rank h (8 * g + 3) q.marks in
      let all : sum_by f (a ++ p ∷ b) ≡ one_if (is_due c.start (word_rank w) (8 * g + 3)) =
      s.counted (8 * g + 3) in
      let one : one_if (is_due c.start (word_rank w) (8 * g + 3)) ≤ 1 =
      one-if-le (is_due c.start (word_rank w) (8 * g + 3)) in
      let le : count_at_rank h (8 * g + 4) t.it.marks ≤ f t.it = (s.claimed t.it t.within g).0 in
      let same : p ≡ t.it = sole f a b p t.it (omega arith) since (let m = t.more in
      omega arith) t.within in
      let has : 0 < count_at_rank h (8 * g + 4) p.marks =
      subst (λ (z : Known). 0 < count_at_rank h (8 * g + 4) z.marks) (sym same) t.more in
      omega arith))

-- an owner's mark stands in the owner's list
pub own-mark : (c : Config) (p : Known) (h g i : ℕ) → IsLawfulList c p → i < 8 → (i < 3) ⊎ (5 < i)
    → 0 < count_at_rank h (8 * g + i) p.marks → p.number ≡ owner c h
own-mark c p h g i l small kinds since =
    let m = has-counted (λ (x : Mark). one_if (is_mark h (8 * g + i) x)) p.marks since in
    let that = is-that h (8 * g + i) m.it m.more in
    let ord : kind_place m.it.kind ≡ i = let o = kind_place-small m.it.kind in
    let r : 8 * m.it.generation + kind_place m.it.kind ≡ 8 * g + i = that.1 in omega arith in
    l.in_owner_list m.it m.within
    (owner-kinds m.it.kind (subst (λ (z : ℕ). (z < 3) ⊎ (5 < z)) (sym ord) kinds))
    ∙ ap (owner c) that.0
