-- What more marks leave of a token's condition.
use Rattle.std.proofs.Common.{◌≡◌, ◌≢◌, ℕ, ◌+◌, ◌*◌, ◌<◌, ◌==◌, ◌&&◌, List, [], ◌∷◌, ◌++◌, ◌≤◌, ap}
use Rattle.std.proofs.Common.{arith, ◌⊎◌, ⊎_elim}
use mathlib.Core.Logic.{dite}
use native.Mathlib.Decide.{dec_le}
use Rattle.std.proofs.lemmas.List.Sums.{sum_by-append}
use Rattle.std.proofs.lemmas.Bool.Decides.{nat_tests}
use Rattle.aio_word.specs.declared.WaitRef.{WaitRef}
use Rattle.aio_word.specs.declared.Mark.{Mark}
use Rattle.aio_word.specs.declared.Kind.{Kind}
use Rattle.aio_word.specs.Events.{count_at_rank, is_mark, kind_place}
use Rattle.aio_word.specs.Stands.{one_if}
use Rattle.aio_word.specs.Tokens.{owner_mark_count, is_claim, is_io}
use Rattle.aio_word.specs.Tokens.{claimed_mark_count, io_mark_count}
use Rattle.aio_word.specs.Tokens.{failed_mark_count, is_failed, ClaimsAreCompleted}
use Rattle.aio_word.specs.Tokens.{MarksOnceAndSeen}
use Rattle.aio_word.proofs.AppendKeepsHandle.{mark_by_parts, count_at_rank-push}
use Rattle.aio_word.proofs.OwnMarksBoundWord.{kind_place-small}

abbrev pub count_at_place : WaitRef → ℕ → List Mark → ℕ
count_at_place t i ms = count_at_rank t.handle (8 * t.generation + i) ms

pub mark_count-more : (t : WaitRef) (i : ℕ) (ms more : List Mark)
    → count_at_place t i (ms ++ more) ≡ count_at_place t i ms + count_at_place t i more
mark_count-more t i ms more =
    sum_by-append (λ m. one_if (is_mark t.handle (8 * t.generation + i) m)) ms more

pub owner_mark_count-more : (t : WaitRef) (ms more : List Mark)
    → owner_mark_count t (ms ++ more) ≡ owner_mark_count t ms + owner_mark_count t more
owner_mark_count-more t ms more =
    omega (
      arith,
      mark_count-more t 0 ms more,
      mark_count-more t 1 ms more,
      mark_count-more t 2 ms more,
      mark_count-more t 6 ms
          more,
      mark_count-more t 7 ms more,
    )

pub io-more : (ms more : List Mark) → io_mark_count (ms ++ more) ≡ io_mark_count ms
    + io_mark_count more
io-more ms more = sum_by-append (λ m. one_if (is_io m)) ms more

pub claims-more : (ms more : List Mark)
    → claimed_mark_count (ms ++ more) ≡ claimed_mark_count ms + claimed_mark_count more
claims-more ms more = sum_by-append (λ m. one_if (is_claim m)) ms more

pub failed-more : (ms more : List Mark)
    → failed_mark_count (ms ++ more) ≡ failed_mark_count ms + failed_mark_count more
failed-more ms more = sum_by-append (λ m. one_if (is_failed m.kind)) ms more

pub claims-completed-more : (xs ys : List Mark) → ClaimsAreCompleted xs → ClaimsAreCompleted ys
    → ClaimsAreCompleted (xs ++ ys)
claims-completed-more xs ys k l = record {
  owners = λ t. let a = k.owners t in let b = l.owners t in
      omega (arith, owner_mark_count-more t xs ys);
  io = λ t. let a = k.io t in let b = l.io t in omega (
    arith,
    mark_count-more t 4 xs ys,
    mark_count-more t 3 xs ys,
  );
  shared = λ t. let a = k.shared t in let b = l.shared t in
      omega (arith, mark_count-more t 5 xs ys, mark_count-more t 3 xs ys);
  all = let a : io_mark_count xs ≡ claimed_mark_count xs = k.all in
      let b : io_mark_count ys ≡ claimed_mark_count ys = l.all in
      omega (arith, io-more xs ys, claims-more xs ys);
}

-- one mark more
pub mark_count-push : (t u : WaitRef) (i : ℕ) (k : Kind) (ms : List Mark)
    → count_at_place t i (ms ++ mark_by_parts u.handle u.generation k ∷ [])
    ≡ count_at_place t i ms + one_if
    ((u.handle == t.handle) && ((8 * u.generation + kind_place k) == (8 * t.generation + i)))
mark_count-push t u i k ms = count_at_rank-push t.handle (8 * t.generation + i) ms
    (mark_by_parts u.handle u.generation k)

test-other : (a b g r i o : ℕ) → (a ≢ b) ⊎ (g ≢ r) → i < 8 → o < 8
    → one_if ((a == b) && ((8 * g + o) == (8 * r + i))) ≡ 0
test-other a b g r i o d si so =
    ⊎_elim (λ n. grind (arith, nat_tests)) (λ n. let m : (8 * g + o) ≢ (8 * r + i) =
    λ e. n (omega arith) in grind (arith, nat_tests)) d

test-place : (a b g r i o : ℕ) → o ≢ i → i < 8 → o < 8
    → one_if ((a == b) && ((8 * g + o) == (8 * r + i))) ≡ 0
test-place a b g r i o n si so = let m : (8 * g + o) ≢ (8 * r + i) = λ e. n (omega arith) in
    grind (arith, nat_tests)

-- a mark of another incarnation leaves all counts of this one
pub mark_count-other : (t u : WaitRef) (i : ℕ) (k : Kind) (ms : List Mark)
    → (u.handle ≢ t.handle) ⊎ (u.generation ≢ t.generation) → i < 8
    → count_at_place t i (ms ++ mark_by_parts u.handle u.generation k ∷ []) ≡ count_at_place t i ms
mark_count-other t u i k ms d si = let z =
    test-other u.handle t.handle u.generation t.generation i (kind_place k) d si
    (kind_place-small k) in
    omega (arith, mark_count-push t u i k ms)

-- a mark at another place leaves the count at this one
pub mark_count-place : (t u : WaitRef) (i : ℕ) (k : Kind) (ms : List Mark) → kind_place k ≢ i
    → i < 8
    → count_at_place t i (ms ++ mark_by_parts u.handle u.generation k ∷ []) ≡ count_at_place t i ms
mark_count-place t u i k ms n si = let z =
    test-place u.handle t.handle u.generation t.generation i (kind_place k) n si
    (kind_place-small k) in
    omega (arith, mark_count-push t u i k ms)

test-one : (h i r n : ℕ) → one_if ((h == i) && (r == n)) ≤ 1
test-one h i r n = grind (arith, nat_tests)

test-true : (h i r n : ℕ) → 0 < one_if ((h == i) && (r == n)) → (h ≡ i) × (r ≡ n)
test-true h i r n = grind (arith, nat_tests)

-- one marked event keeps it, from what was seen alone
pub marks-once-and-seen : (s s' : ℕ → ℕ) (u : WaitRef) (k : Kind) (ms : List Mark)
    → s u.handle ≤ 8 * u.generation + kind_place k → s' u.handle
    ≡ 8 * u.generation + kind_place k + 1
    → ((i : ℕ) → s i ≤ s' i)
    → MarksOnceAndSeen s ms → MarksOnceAndSeen s' (ms ++ mark_by_parts u.handle u.generation k ∷ [])
marks-once-and-seen s s' u k ms old now grows kp = record {
  once = λ h n. let p = count_at_rank-push h n ms (mark_by_parts u.handle u.generation k) in
      let o = kp.once h n in
      dite (dec_le (count_at_rank h n ms) 0)
      (λ z. let t = test-one u.handle h (8 * u.generation + kind_place k) n in omega arith)
      (λ z. let b = kp.below h n (omega arith) in
      dite (dec_le (one_if ((u.handle == h) && ((8 * u.generation + kind_place k) == n))) 0)
      (λ y. omega arith)
      (λ y. let t = test-true u.handle h (8 * u.generation + kind_place k) n (omega arith) in
      let e : s u.handle ≡ s h = ap s t.0 in let f = t.1 in absurd (omega arith)));
  below = λ h n lt. let p = count_at_rank-push h n ms (mark_by_parts u.handle u.generation k) in
      dite (dec_le (count_at_rank h n ms) 0)
      (λ z. let t = test-true u.handle h (8 * u.generation + kind_place k) n (omega arith) in
      let e : s' u.handle ≡ s' h = ap s' t.0 in let f = t.1 in omega arith)
      (λ z. let b = kp.below h n (omega arith) in let g = grows h in omega arith);
}
