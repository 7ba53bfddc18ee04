-- What the lists say of the lives of a handle, in plain words.
use Rattle.std.proofs.Common.{◌≡◌, ℕ, ◌+◌, ◌*◌, ◌<◌, ◌≤◌, ◌↔◌, List, get_or, ◌∙◌, subst, arith}
use Rattle.std.proofs.Common.{Some, slice_get}
use Rattle.std.proofs.lemmas.Option.{slice_get-get_or}
use mathlib.Core.Logic.{dite}
use native.Mathlib.Decide.{dec_le}
use Rattle.aio_word.specs.declared.Config.{Config}
use Rattle.aio_word.specs.declared.Kind.{Kind}
use Rattle.aio_word.specs.declared.Kind.TheVariants as kind
use Rattle.aio_word.specs.declared.Mark.{Mark}
use Rattle.aio_word.specs.declared.Known.{Known}
use Rattle.aio_word.specs.declared.WaitRef.{WaitRef}
use Rattle.aio_word.specs.declared.Word.{Word}
use Rattle.aio_word.specs.Words.{IsDone, word_rank}
use Rattle.aio_word.specs.Events.{handle_count, kind_place, is_mark, count_at_rank, wait_ref}
use Rattle.aio_word.specs.Events.{any_local, first_word}
use Rattle.aio_word.specs.Stands.{one_if, total_at_rank, mark_total, Stands}
use Rattle.aio_word.specs.StandsByRank.{is_due, StandsForHandleByRank}
use Rattle.aio_word.proofs.OwnMarksBoundWord.{has-counted, is-that, kind_place-small}
use Rattle.aio_word.proofs.EventEffect.{get-at}
use Rattle.aio_word.proofs.PackIsInjective.{done-by-rank}
use Rattle.aio_word.proofs.RanksAgree.{handle-by-rank}
use Rattle.aio_word.proofs.ReachableIsLawful.{done-shared}
use Rattle.aio_word.proofs.MarksDue.{one-if-le, due-one, due-true}

due-earlier : (s r g i j : ℕ) → i ≤ j → j < 8
    → one_if (is_due s r (8 * g + j)) ≤ one_if (is_due s r (8 * g + i))
due-earlier s r g i j le small =
    dite (dec_le (one_if (is_due s r (8 * g + j))) 0) (λ none. omega arith)
    (λ some. let d = due-true s r (8 * g + j) (omega arith) in let lo = d.0 in let hi = d.1 in
    let one = due-one s r (8 * g + i) (omega arith) (omega arith) in
    let le' = one-if-le (is_due s r (8 * g + j)) in omega arith)

module _ (c : Config) (words : List Word) (parts : List Known) (s : Stands c words parts) where
  at-handle : (h : ℕ) (w : Word) → slice_get words h ≡ Some w → StandsForHandleByRank c parts h w
  at-handle h w e = handle-by-rank c parts h w (s.each_handle h w (get-at words h w e))

  -- a handle that has a mark is in range
  in-range : (h n : ℕ) → 0 < total_at_rank h n parts → h < handle_count c
  in-range h n more =
      let p = has-counted (λ (q : Known). count_at_rank h n q.marks) parts more in
      let m = has-counted (λ (x : Mark). one_if (is_mark h n x)) p.it.marks p.more in
      subst (λ (z : ℕ). z < handle_count c) (is-that h n m.it m.more).0
      ((s.each_list p.it p.within).in_range m.it m.within)

  -- where a mark stands its handle has a word
  word-of : (h n : ℕ) → 0 < total_at_rank h n parts → (w : Word) × (slice_get words h ≡ Some w)
  word-of h n more = let lt = in-range h n more in let one_per_handle = s.one_per_handle in
      (get_or words h (first_word c), slice_get-get_or words h (first_word c) (omega arith))

  pub mark-once : (t : WaitRef) (k : Kind) → mark_total t k parts ≤ 1
  mark-once t k = let n : ℕ = 8 * t.generation + kind_place k in
      dite (dec_le (total_at_rank t.handle n parts) 0) (λ none. omega arith)
      (λ some. let (w, e) = word-of t.handle n (omega arith) in
      let all = (at-handle t.handle w e).counted n in
      let one = one-if-le (is_due c.start (word_rank w) n) in omega arith)

  pub earlier-mark-total : (t : WaitRef) (earlier later : Kind)
      → kind_place earlier ≤ kind_place later
      → mark_total t later parts ≤ mark_total t earlier parts
  earlier-mark-total t i j le = let n : ℕ = 8 * t.generation + kind_place j in
      dite (dec_le (total_at_rank t.handle n parts) 0) (λ none. omega arith)
      (λ some. let (w, e) = word-of t.handle n (omega arith) in
      let later = (at-handle t.handle w e).counted n in
      let earlier = (at-handle t.handle w e).counted (8 * t.generation + kind_place i) in
      let less = due-earlier c.start (word_rank w) t.generation (kind_place i) (kind_place j) le
      (kind_place-small j) in omega arith)

  pub taken-after-shared : (t : WaitRef) → 0 < mark_total t any_local parts
      → (mark_total t kind.Shared parts ≡ 1) × (mark_total t any_local parts ≡ 1)
  taken-after-shared t more =
      let shared = earlier-mark-total t kind.Shared any_local (omega arith) in
      let a = mark-once t kind.Shared in let b = mark-once t any_local in (omega arith, omega arith)

  pub reclaimed-first : (h g next : ℕ) (k : Kind) → c.start ≤ g → g < next
      → 0 < mark_total (wait_ref h next) k parts → mark_total (wait_ref h g) kind.Reclaimed parts
      ≡ 1
  reclaimed-first h g next k lo lt more =
      let n : ℕ = 8 * next + kind_place k in
      let (w, e) = word-of h n more in
      let all = (at-handle h w e).counted n in
      let due = due-true c.start (word_rank w) n (omega arith) in let hi = due.1 in
      (at-handle h w e).counted (8 * g + 7)
      ∙ due-one c.start (word_rank w) (8 * g + 7) (omega arith) (omega arith)

  pub done-exactly : (h g : ℕ) (w : Word) → slice_get words h ≡ Some w → c.start ≤ g
      → IsDone w g ↔ (mark_total (wait_ref h g) kind.Shared parts ≡ 1)
  done-exactly h g w e lo = (
    done-shared c parts h w g (s.each_handle h w (get-at words h w e)) lo,
    λ one. let all = (at-handle h w e).counted (8 * g + 5) in
        let due = due-true c.start (word_rank w) (8 * g + 5) (omega arith) in let hi = due.1 in
        done-by-rank w g (omega arith),
  )
