-- Each failed result has a failed execution of its own: as many failed results stand over all lists
-- as failed executions at most.
use Rattle.std.proofs.Common.{◌≡◌, ℕ, zero, suc, ◌+◌, ◌*◌, ◌<◌, ◌≤◌, ◌==◌, ◌&&◌, Bool, true, false}
use Rattle.std.proofs.Common.{cond, nat_lt, List, [], ◌∷◌, sum_by, count_by, refl, ap, ◌∙◌}
use Rattle.std.proofs.Common.{subst, inl, inr, arith}
use Rattle.std.proofs.lemmas.List.Sums.{sum_by-cons}
use Rattle.std.proofs.lemmas.Bool.Decides.{nat_tests}
use mathlib.Core.Logic.{dite}
use native.Mathlib.Decide.{ℕ_discrete, dec_le}
use Rattle.aio_word.specs.declared.Config.{Config}
use Rattle.aio_word.specs.declared.Class.TheVariants.{Unended, Whole, Short, Failed}
use Rattle.aio_word.specs.declared.Kind.{Kind}
use Rattle.aio_word.specs.declared.Kind.TheVariants as kind
use Rattle.aio_word.specs.declared.Mark.{Mark}
use Rattle.aio_word.specs.declared.Word.{Word}
use Rattle.aio_word.specs.declared.Known.{Known}
use Rattle.aio_word.specs.Words.{word_place}
use Rattle.aio_word.specs.Events.{handle_count, kind_place, is_mark, mark_count, wait_ref}
use Rattle.aio_word.specs.Events.{make_mark, any_local}
use Rattle.aio_word.specs.Stands.{IsIn, one_if, mark_total, StandsForHandle, Stands}
use Rattle.aio_word.specs.Tokens.{is_failed, is_failed_result, failed_mark_count}
use Rattle.aio_word.specs.Tokens.{failed_result_count}
use Rattle.aio_word.proofs.ReplacedElement.{sum-in}
use Rattle.aio_word.proofs.TotalsAgree.{sum_below, sum_below-same, buckets, sums-swapped, sum-same}
use Rattle.aio_handle.proofs.SeatLists.{entry-at}
use Rattle.aio_handle.proofs.IoMarksMatchClaims.{executed-in, sum-le}

upto-le : (f g : ℕ → ℕ) (n : ℕ) → ((i : ℕ) → i < n → f i ≤ g i) → sum_below f n ≤ sum_below g n
upto-le f g zero h = omega arith
upto-le f g (suc n) h = let r = upto-le f g n (λ i lt. h i (omega arith)) in
    let e = h n (omega arith) in omega arith

-- a sum above 0 has an element above 0
some-in : {A : Type 0} (f : A → ℕ) (xs : List A) → 0 < sum_by f xs
    → (x : A) × IsIn x xs × (0 < f x)
some-in f [] lt = absurd (omega arith)
some-in f (x ∷ xs) lt = let c = sum_by-cons f x xs in dite (dec_le 1 (f x))
    (λ yes. (x, inl refl, omega arith))
    (λ no. let (y, i, more) = some-in f xs (omega arith) in (y, inr i, more))

abbrev here : (Kind → Bool) → ℕ → ℕ → Mark → Bool
here P h g m = (P m.kind && (m.handle == h)) && (m.generation == g)

abbrev spot : (Kind → Bool) → ℕ → ℕ → Known → ℕ
spot P h g p = count_by (here P h g) p.marks

-- the marks of some kinds, by handle and generation
module _ (P : Kind → Bool) (H G : ℕ) (parts : List Known)
    (bound : (p : Known) → IsIn p parts → (m : Mark) → IsIn m p.marks
    → (m.handle < H) × (m.generation < G)) where
  spread-one : (p : Known) → IsIn p parts → count_by (λ (m : Mark). P m.kind) p.marks
      ≡ sum_below (λ h. sum_below (λ g. spot P h g p) G) H
  spread-one p i =
      buckets (λ (m : Mark). P m.kind) (λ m. m.handle) H p.marks (λ m j _. (bound p i m j).0)
      ∙ sum_below-same (λ h. count_by (λ (m : Mark). P m.kind && (m.handle == h)) p.marks)
      (λ h. sum_below (λ g. spot P h g p) G) H (λ h _.
      buckets (λ (m : Mark). P m.kind && (m.handle == h)) (λ m. m.generation) G p.marks
      (λ m j _. (bound p i m j).1))

  spread-all : sum_by (λ (p : Known). count_by (λ (m : Mark). P m.kind) p.marks) parts
      ≡ sum_below (λ h. sum_below (λ g. sum_by (spot P h g) parts) G) H
  spread-all =
      sum-same (λ (p : Known). count_by (λ (m : Mark). P m.kind) p.marks)
      (λ p. sum_below (λ h. sum_below (λ g. spot P h g p) G) H) parts spread-one
      ∙ (sums-swapped (λ (p : Known) h. sum_below (λ g. spot P h g p) G) H parts
      ∙ sum_below-same (λ h. sum_by (λ (p : Known). sum_below (λ g. spot P h g p) G) parts)
      (λ h. sum_below (λ g. sum_by (spot P h g) parts) G) H
      (λ h _. sums-swapped (λ (p : Known) g. spot P h g p) G parts))

failed-is : (k : Kind) → is_failed_result k ≡ true → k ≡ kind.Local Failed
failed-is kind.Defined e = absurd (cc)
failed-is kind.Staged e = absurd (cc)
failed-is kind.Submitted e = absurd (cc)
failed-is kind.Claimed e = absurd (cc)
failed-is (kind.Io c) e = absurd (cc)
failed-is kind.Shared e = absurd (cc)
failed-is (kind.Local Unended) e = absurd (cc)
failed-is (kind.Local Whole) e = absurd (cc)
failed-is (kind.Local Short) e = absurd (cc)
failed-is (kind.Local Failed) e = refl
failed-is kind.Reclaimed e = absurd (cc)

one-true : (b : Bool) → 0 < cond b 1 0 → b ≡ true
one-true true lt = refl
one-true false lt = absurd (omega arith)

parts-true : (b : Bool) (k h l g : ℕ) → ((b && (k == h)) && (l == g)) ≡ true
    → (b ≡ true) × (k ≡ h) × (l ≡ g)
parts-true b k h l g e =
    (grind (arith, nat_tests), grind (arith, nat_tests), grind (arith, nat_tests))

-- a failed result of an incarnation stands where its count is above 0
is-there : (h g : ℕ) (p : Known) → 0 < spot is_failed_result h g p
    → IsIn (make_mark (wait_ref h g) (kind.Local Failed)) p.marks
is-there h g p lt =
    let (m, i, more) = some-in (λ (x : Mark). cond (here is_failed_result h g x) 1 0) p.marks lt in
    let (b, k, l) = parts-true (is_failed_result m.kind) m.handle h m.generation g
    (one-true (here is_failed_result h g m) more) in
    let same : m ≡ make_mark (wait_ref h g) (kind.Local Failed) =
    subst (λ (x : ℕ). m ≡ record { handle = x; generation = g; kind = kind.Local Failed }) k
    (subst (λ (x : ℕ). m ≡ record { handle = m.handle; generation = x; kind = kind.Local Failed }) l
    (subst (λ (x : Kind). m ≡ record { handle = m.handle; generation = m.generation; kind = x })
    (failed-is m.kind b) refl)) in
    subst (λ (x : Mark). IsIn x p.marks) same i

self-here : (h g : ℕ) → one_if (here is_failed h g (make_mark (wait_ref h g) (kind.Io Failed))) ≡ 1
self-here h g = grind (arith, nat_tests)

-- at most one result of an incarnation stands
is-local : (h g : ℕ) (m : Mark) → cond (here is_failed_result h g m) 1 0
    ≤ cond (is_mark h (8 * g + 6) m) 1 0
is-local h g m = dite (dec_le 1 (cond (here is_failed_result h g m) 1 0))
    (λ yes. let (b, k, l) = parts-true (is_failed_result m.kind) m.handle h m.generation g
    (one-true (here is_failed_result h g m) (omega arith)) in
    let six : kind_place m.kind ≡ 6 = ap kind_place (failed-is m.kind b) in
    grind (arith, nat_tests))
    (λ no. omega arith)

at-most : (b : Bool) → one_if b ≤ 1
at-most true = omega arith
at-most false = omega arith

one-stands : (c : Config) (parts : List Known) (h : ℕ) (w : Word) → StandsForHandle c parts h w
    → (g : ℕ) → mark_total (wait_ref h g) any_local parts ≤ 1
one-stands c parts h w s g = dite (dec_le c.start g)
    (λ lo. dite (ℕ_discrete g w.generation)
    (λ same. let now = s.now any_local in
    let b = at-most (nat_lt 6 (word_place w)) in
    let e : mark_total (wait_ref h g) any_local parts ≡ mark_total
    (wait_ref h w.generation) any_local parts =
    ap (λ (x : ℕ). mark_total (wait_ref h x) any_local parts) same in omega arith)
    (λ ne. dite (dec_le g w.generation)
    (λ le. let o = s.past_marks g lo (omega arith) any_local in omega arith)
    (λ gt. let n = s.none g (inr (omega arith)) any_local in omega arith)))
    (λ lo. let n = s.none g (inl (omega arith)) any_local in omega arith)

module _ (c : Config) (ws : List Word) (parts : List Known) (s : Stands c ws parts) where
  at-spot : (h g : ℕ) → h < handle_count c
      → sum_by (spot is_failed_result h g) parts ≤ sum_by (spot is_failed h g) parts
  at-spot h g lt = dite (dec_le 1 (sum_by (spot is_failed_result h g) parts))
      (λ some.
      let (p, i, more) = some-in (spot is_failed_result h g) parts (omega arith) in
      let (q, j, io) = executed-in c ws parts s p i (wait_ref h g) Failed (is-there h g p more) in
      let (w, word) = entry-at ws h (let one_per_handle = s.one_per_handle in omega arith) in
      let few = sum-le (spot is_failed_result h g) (λ (p : Known). mark_count
      (wait_ref h g) any_local p.marks)
      parts (λ p _. sum-le (λ (m : Mark). cond (here is_failed_result h g m) 1 0)
      (λ m. cond (is_mark h (8 * g + 6) m) 1 0) p.marks (λ m _. is-local h g m)) in
      let one = one-stands c parts h w (s.each_handle h w word) g in
      let inside = sum-in (λ (m : Mark). cond (here is_failed h g m) 1 0) q.marks
      (make_mark (wait_ref h g) (kind.Io Failed)) io in
      let self = self-here h g in
      let outside = sum-in (spot is_failed h g) parts q j in
      omega arith)
      (λ none. omega arith)

  pub failed_results_few : sum_by (λ (p : Known). failed_result_count p.marks) parts
      ≤ sum_by (λ (p : Known). failed_mark_count p.marks) parts
  failed_results_few =
      let G : ℕ = sum_by (λ (p : Known). sum_by (λ (m : Mark). m.generation) p.marks) parts + 1 in
      let bound : (p : Known) → IsIn p parts → (m : Mark) → IsIn m p.marks
      → (m.handle < handle_count c) × (m.generation < G) = λ p i m j. (
        (s.each_list p i).in_range m j,
        (let a = sum-in (λ (x : Mark). x.generation) p.marks m j in
            let b = sum-in (λ (x : Known). sum_by (λ (m : Mark). m.generation) x.marks) parts p i in
            omega arith),
      ) in
      let left = spread-all is_failed_result (handle_count c) G parts bound in
      let right = spread-all is_failed (handle_count c) G parts bound in
      let le = upto-le (λ h. sum_below (λ g. sum_by (spot is_failed_result h g) parts) G)
      (λ h. sum_below (λ g. sum_by (spot is_failed h g) parts) G) (handle_count c)
      (λ h lt. upto-le (λ g. sum_by (spot is_failed_result h g) parts)
      (λ g. sum_by (spot is_failed h g) parts) G (λ g _. at-spot h g lt)) in
      omega arith
