-- An actor goes on: claims, looks, and what follows on another.
use Rattle.std.proofs.Common.{◌≡◌, ℕ, List, [], ◌∷◌, ◌++◌, refl, sym, ap, ◌∙◌, subst, arith}
use Rattle.std.proofs.Common.{append_assoc, append-nil, ◌≢◌, ◌⊎◌, ⊎_elim, ◌==◌, ◌&&◌, Bool, true}
use Rattle.std.proofs.Common.{false, sum_by, inl, inr, ◌<◌, ◌*◌, ◌+◌}
use Rattle.std.proofs.lemmas.Bool.Decides.{nat_tests}
use Rattle.std.proofs.lemmas.List.Sums.{sum_by-cons}
use mathlib.Core.Logic.{dite}
use native.Mathlib.Decide.{ℕ_discrete}
use Rattle.aio_word.specs.declared.Class.{Class}
use Rattle.aio_word.specs.declared.WaitRef.{WaitRef}
use Rattle.aio_word.specs.declared.Step.TheVariants as event
use Rattle.aio_word.specs.declared.Kind.TheVariants as kind
use Rattle.aio_word.specs.declared.Mark.{Mark}
use Rattle.aio_word.specs.declared.Look.{Look}
use Rattle.aio_word.specs.declared.Word.{Word}
use Rattle.aio_word.specs.declared.Known.{Known}
use Rattle.aio_word.specs.Words.{packed_word}
use Rattle.aio_word.specs.Events.{wait_ref, count_at_rank, is_mark}
use Rattle.aio_word.specs.Stands.{IsIn, one_if}
use Rattle.aio_word.specs.Tokens.{AppendsMarks, ClaimsAreCompleted}
use Rattle.aio_word.proofs.ReplacedElement.{in-left}
use Rattle.aio_word.proofs.AppendKeepsHandle.{mark_by_parts}
use Rattle.aio_handle.specs.CallEvents.{EventMade, WordLoaded}
use Rattle.aio_handle.specs.LifeWords.{unclaimed_word, claimed_word, executed_word, completed_word}
use Rattle.aio_handle.specs.KnownChanges.{look}
use Rattle.aio_handle.proofs.TokensAfterEvent.{seen-appends, look-grows}

pub claim-grows : (h g : ℕ) (aim : List ℕ) (p q : Known)
    → EventMade event.Claim h (unclaimed_word g) (claimed_word g) aim p q
    → AppendsMarks p q (mark_by_parts h g kind.Claimed ∷ [])
claim-grows h g aim p q m = record {
  number = ap (λ (z : Known). z.number) m.is;
  config = ap (λ (z : Known). z.config) m.is;
  out = ap (λ (z : Known). z.out) m.is;
  marks = ap (λ (z : Known). z.marks) m.is;
  seen = seen-appends event.Claim h (unclaimed_word g) (claimed_word g) aim p q m;
  aims = λ e i. subst (λ (z : Known). IsIn e z.aims) (sym m.is)
      (in-left e p.aims ((wait_ref h g, aim) ∷ []) i);
  looks = (look h (packed_word (unclaimed_word g)) ∷ [], ap (λ (z : Known). z.looks) m.is);
}

pub look-on : (h : ℕ) (w : Word) (p q : Known) → WordLoaded h w p q → AppendsMarks p q []
look-on h w p q m = record {
  number = ap (λ (z : Known). z.number) m.is;
  config = ap (λ (z : Known). z.config) m.is;
  out = ap (λ (z : Known). z.out) m.is;
  marks = ap (λ (z : Known). z.marks) m.is ∙ sym (append-nil p.marks);
  seen = look-grows h w p q m;
  aims = λ e i. subst (λ (z : Known). IsIn e z.aims) (sym m.is) i;
  looks = (look h (packed_word w) ∷ [], ap (λ (z : Known). z.looks) m.is);
}

pub appends-none : (p : Known) → AppendsMarks p p []
appends-none p = record {
  number = refl;
  config = refl;
  out = refl;
  marks = sym (append-nil p.marks);
  seen = λ h. omega arith;
  aims = λ e i. i;
  looks = ([], sym (append-nil p.looks));
}

pub appends-then : (p q r : Known) (xs ys : List Mark) → AppendsMarks p q xs → AppendsMarks q r ys
    → AppendsMarks p r (xs ++ ys)
appends-then p q r xs ys a b = record {
  number = b.number ∙ a.number;
  config = b.config ∙ a.config;
  out = b.out ∙ a.out;
  marks = b.marks ∙ (ap (λ (z : List Mark). z ++ ys) a.marks ∙ append_assoc p.marks xs ys);
  seen = λ h. let x = a.seen h in let y = b.seen h in omega arith;
  aims = λ e i. b.aims e (a.aims e i);
  looks = (
    a.looks.0 ++ b.looks.0,
    b.looks.1 ∙
        (ap (λ (z : List Look). z ++ b.looks.0) a.looks.1 ∙ append_assoc p.looks a.looks.0
        b.looks.0),
  );
}

pub claims-completed-none : ClaimsAreCompleted []
claims-completed-none = record {
  owners = λ t. refl;
  io = λ t. refl;
  shared = λ t. refl;
  all = refl;
}

pub io-grows : (class : Class) (h g : ℕ) (p q : Known)
    → EventMade (event.Io class) h (claimed_word g) (executed_word class g) [] p q
    → AppendsMarks p q (mark_by_parts h g (kind.Io class) ∷ [])
io-grows class h g p q m = record {
  number = ap (λ (z : Known). z.number) m.is;
  config = ap (λ (z : Known). z.config) m.is;
  out = ap (λ (z : Known). z.out) m.is;
  marks = ap (λ (z : Known). z.marks) m.is;
  seen = seen-appends (event.Io class) h (claimed_word g) (executed_word class g) [] p q m;
  aims = λ e i. subst (λ (z : Known). IsIn e z.aims) (sym m.is) i;
  looks = (look h (packed_word (claimed_word g)) ∷ [], ap (λ (z : Known). z.looks) m.is);
}

pub share-grows : (class : Class) (h g : ℕ) (p q : Known)
    → EventMade event.Shared h (executed_word class g) (completed_word class g) [] p q
    → AppendsMarks p q (mark_by_parts h g kind.Shared ∷ [])
share-grows class h g p q m = record {
  number = ap (λ (z : Known). z.number) m.is;
  config = ap (λ (z : Known). z.config) m.is;
  out = ap (λ (z : Known). z.out) m.is;
  marks = ap (λ (z : Known). z.marks) m.is;
  seen = seen-appends event.Shared h (executed_word class g) (completed_word class g) [] p q m;
  aims = λ e i. subst (λ (z : Known). IsIn e z.aims) (sym m.is) i;
  looks = (look h (packed_word (executed_word class g)) ∷ [], ap (λ (z : Known). z.looks) m.is);
}

other-place : (b : Bool) (g r o i : ℕ) → o ≢ i → o < 8 → i < 8
    → one_if (b && (8 * g + o == 8 * r + i)) ≡ 0
other-place true g r o i ne a b = let m : (8 * g + o) ≢ (8 * r + i) = λ e. ne (omega arith) in
    grind (arith, nat_tests)
other-place false g r o i ne a b = refl

pub same-place : (b : Bool) (g r o i : ℕ)
    → one_if (b && (8 * g + o == 8 * r + o)) ≡ one_if (b && (8 * g + i == 8 * r + i))
same-place true g r o i = dite (ℕ_discrete g r) (λ e. grind (arith, nat_tests))
    (λ n. grind (arith, nat_tests))
same-place false g r o i = refl

abbrev one-life : Class → ℕ → ℕ → List Mark
one-life class h g = mark_by_parts h g kind.Claimed ∷ mark_by_parts h g (kind.Io class)
    ∷ mark_by_parts h g kind.Shared ∷ []

count_at_rank-life : (class : Class) (h g i n : ℕ)
    → count_at_rank i n (one-life class h g) ≡ one_if ((h == i) && (8 * g + 3 == n)) +
    (one_if ((h == i) && (8 * g + 4 == n)) + (one_if ((h == i) && (8 * g + 5 == n)) + 0))
count_at_rank-life class h g i n =
    let f : Mark → ℕ = λ x. one_if (is_mark i n x) in
    let a = sum_by-cons f (mark_by_parts h g kind.Claimed)
    (mark_by_parts h g (kind.Io class) ∷ mark_by_parts h g kind.Shared ∷ []) in
    let b = sum_by-cons f (mark_by_parts h g (kind.Io class))
    (mark_by_parts h g kind.Shared ∷ []) in
    let d = sum_by-cons f (mark_by_parts h g kind.Shared) [] in
    let z : sum_by f [] ≡ 0 = refl in
    let goal : sum_by f (one-life class h g) ≡ f (mark_by_parts h g kind.Claimed) +
    (f (mark_by_parts h g (kind.Io class)) + (f (mark_by_parts h g kind.Shared) + 0)) =
    omega arith in goal

-- a claim, its Io mark and its Shared mark
pub claims-completed-one : (class : Class) (h g : ℕ) → ClaimsAreCompleted (one-life class h g)
claims-completed-one class h g = record {
  owners = λ t.
      let none : (i : ℕ) → i < 8 → (i < 3) ⊎ (5 < i)
      → count_at_rank t.handle (8 * t.generation + i) (one-life class h g) ≡ 0 = λ i lt ne.
      let n3 : 3 ≢ i = λ e. ⊎_elim (λ x. omega arith) (λ x. omega arith) ne in
      let n4 : 4 ≢ i = λ e. ⊎_elim (λ x. omega arith) (λ x. omega arith) ne in
      let n5 : 5 ≢ i = λ e. ⊎_elim (λ x. omega arith) (λ x. omega arith) ne in
      let s = count_at_rank-life class h g t.handle (8 * t.generation + i) in
      let a = other-place (h == t.handle) g t.generation 3 i n3 (omega arith) lt in let b =
      other-place (h == t.handle) g t.generation 4 i n4 (omega arith) lt in let d =
      other-place (h == t.handle) g t.generation 5 i n5 (omega arith) lt in omega arith in
      let a = none 0 (omega arith) (inl (omega arith)) in let b =
      none 1 (omega arith) (inl (omega arith)) in let d =
      none 2 (omega arith) (inl (omega arith)) in let e =
      none 6 (omega arith) (inr (omega arith)) in let f =
      none 7 (omega arith) (inr (omega arith)) in omega arith;
  io = λ t. equal t 4 (omega arith) (omega arith);
  shared = λ t. equal t 5 (omega arith) (omega arith);
  all = refl;
}
  where
    equal : (t : WaitRef) (i : ℕ) → 3 < i → i < 6
        → count_at_rank t.handle (8 * t.generation + i) (one-life class h g)
        ≡ count_at_rank t.handle
        (8 * t.generation + 3) (one-life class h g)
    equal t i lo hi =
        let b : Bool = h == t.handle in
        let s = count_at_rank-life class h g t.handle (8 * t.generation + i) in
        let s3 = count_at_rank-life class h g t.handle (8 * t.generation + 3) in
        let z3 = other-place b g t.generation 3 i (λ e. omega arith) (omega arith) (omega arith) in
        let z43 = other-place b g t.generation 4 3 (λ e. omega arith) (omega arith) (omega arith) in
        let z53 = other-place b g t.generation 5 3 (λ e. omega arith) (omega arith) (omega arith) in
        dite (ℕ_discrete i 4)
        (λ e. let e4 : one_if (b && (8 * g + 4 == 8 * t.generation + i)) ≡ one_if
        (b && (8 * g + 3 == 8 * t.generation + 3)) = subst
        (λ (z : ℕ). one_if (b && (8 * g + 4 == 8 * t.generation + z)) ≡ one_if
        (b && (8 * g + 3 == 8 * t.generation + 3))) (sym e) (same-place b g t.generation 4 3) in
        let z5 = other-place b g t.generation 5 i (λ x. omega arith) (omega arith) (omega arith) in
        omega arith)
        (λ n. let five : i ≡ 5 = omega arith in
        let e5 : one_if (b && (8 * g + 5 == 8 * t.generation + i)) ≡ one_if
        (b && (8 * g + 3 == 8 * t.generation + 3)) = subst
        (λ (z : ℕ). one_if (b && (8 * g + 5 == 8 * t.generation + z)) ≡ one_if
        (b && (8 * g + 3 == 8 * t.generation + 3))) (sym five)
        (same-place b g t.generation 5 3) in
        let z4 = other-place b g t.generation 4 i (λ x. omega arith) (omega arith) (omega arith) in
        omega arith)
