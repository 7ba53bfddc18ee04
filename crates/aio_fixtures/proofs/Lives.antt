-- What events and looks do to the lives of an actor's incarnations.
use Rattle.std.proofs.Common.{◌≡◌, ◌≢◌, ℕ, ◌+◌, ◌*◌, ◌<◌, List, [], ◌∷◌, sum_by, refl}
use Rattle.std.proofs.Common.{ap, ◌∙◌, inr, arith}
use Rattle.std.proofs.lemmas.List.Sums.{sum_by-cons}
use Rattle.aio_word.specs.declared.Class.{Class}
use Rattle.aio_word.specs.declared.Step.{Step as Event}
use Rattle.aio_word.specs.declared.Step.TheVariants as event
use Rattle.aio_word.specs.declared.Kind.TheVariants as kind
use Rattle.aio_word.specs.declared.WaitRef.{WaitRef}
use Rattle.aio_word.specs.declared.Word.{Word}
use Rattle.aio_word.specs.declared.Known.{Known}
use Rattle.aio_word.specs.Words.{word_place, word_rank}
use Rattle.aio_word.specs.Events.{mark_count, is_mark, wait_ref}
use Rattle.aio_word.specs.Stands.{one_if}
use Rattle.aio_word.proofs.AppendKeepsHandle.{mark_by_parts, count_at_rank-push}
use Rattle.aio_handle.specs.EndStates.{AllReclaimed}
use Rattle.aio_handle.specs.LifeWords.{handed_out_word, defined_word, idle_word, taken_word}
use Rattle.aio_handle.specs.CallEvents.{EventMade, WordLoaded}
use Rattle.aio_handle.proofs.TokensAfterEvent.{counts-apart}
use Rattle.aio_fixtures.specs.Lives.{KeepsLives, BeginsLife, EndsLife}

-- an event between the first mark and the last begins and ends no life
pub amid : (e : Event) (h : ℕ) (w w' : Word) (aim : List ℕ) (p q : Known)
    → EventMade e h w w' aim p q
    → 0 < word_place w → word_place w < 7 → KeepsLives p q
amid e h w w' aim p q m lo hi t =
    let apart : (n : ℕ) → (n ≡ 0) → (8 * t.generation + n) ≢ word_rank w = λ n z x. omega arith in (
      counts-apart e h w w' aim p q m t.handle (8 * t.generation + 0) (inr (apart 0 refl)),
      counts-apart e h w w' aim p q m t.handle (8 * t.generation + 7) (inr (λ x. omega arith)),
    )

pub amid-then : (p q r : Known) → KeepsLives p q → KeepsLives q r → KeepsLives p r
amid-then p q r a b t = ((b t).0 ∙ (a t).0, (b t).1 ∙ (a t).1)

pub amid-looked : (h : ℕ) (w : Word) (p q : Known) → WordLoaded h w p q → KeepsLives p q
amid-looked h w p q m t = (
  ap (λ (z : Known). mark_count t kind.Defined z.marks) m.is,
  ap
      (λ (z : Known). mark_count t kind.Reclaimed z.marks) m.is,
)

-- Define begins one life
pub begun : (h g : ℕ) (aim : List ℕ) (p q r : Known)
    → EventMade event.Define h (handed_out_word g) (defined_word g) aim p q → KeepsLives q r
    → BeginsLife (wait_ref h g) p r
begun h g aim p q r m a t =
    let push : mark_count t kind.Defined q.marks ≡ mark_count t kind.Defined p.marks + one_if
    (is_mark t.handle (8 * t.generation + 0) (mark_by_parts h g kind.Defined)) = ap
    (λ (z : Known). mark_count t kind.Defined z.marks) m.is ∙ count_at_rank-push t.handle
    (8 * t.generation + 0) p.marks (mark_by_parts h g kind.Defined) in
    let one = sum_by-cons (λ x. one_if (is_mark t.handle (8 * t.generation + 0) x))
    (mark_by_parts h g kind.Defined) [] in
    let none : sum_by (λ x. one_if (is_mark t.handle (8 * t.generation + 0) x)) [] ≡ 0 = refl in
    let later = a t in
    let was = later.0 in (
      omega arith,
      later.1 ∙ counts-apart event.Define h (handed_out_word g) (defined_word g) aim p q m t.handle
          (8 * t.generation + 7) (inr (λ x. omega arith)),
    )

-- Reclaim ends one life
pub ends : (u : WaitRef) (class : Class) (aim : List ℕ) (p q r : Known) → KeepsLives p q
    → q.out ≡ p.out
    → EventMade event.Reclaim u.handle (taken_word class u.generation)
    (idle_word (u.generation + 1)) aim q r
    → EndsLife u p r
ends u class aim p q r a out m = record {
  out = ap (λ (z : Known). z.out) m.is ∙ out;
  lives = λ t.
      let push : mark_count t kind.Reclaimed r.marks ≡ mark_count t kind.Reclaimed q.marks + one_if
      (is_mark t.handle (8 * t.generation + 7)
      (mark_by_parts u.handle u.generation kind.Reclaimed)) = ap
      (λ (z : Known). mark_count t kind.Reclaimed z.marks) m.is ∙ count_at_rank-push t.handle
      (8 * t.generation + 7) q.marks (mark_by_parts u.handle u.generation kind.Reclaimed) in
      let one = sum_by-cons (λ x. one_if (is_mark t.handle (8 * t.generation + 7) x))
      (mark_by_parts u.handle u.generation kind.Reclaimed) [] in
      let none : sum_by (λ x. one_if (is_mark t.handle (8 * t.generation + 7) x)) [] ≡ 0 = refl in
      let before = a t in
      let was = before.1 in (
        counts-apart event.Reclaim u.handle (taken_word class u.generation)
            (idle_word (u.generation + 1)) aim q r m t.handle (8 * t.generation + 0)
            (inr (λ x. omega arith)) ∙ before.0,
        omega arith,
      );
}

-- lives that are over stay so
pub over-amid : (p q : Known) → AllReclaimed p → KeepsLives p q → AllReclaimed q
over-amid p q over a t = let before = over t in let x = a t in let x0 = x.0 in let x1 = x.1 in
    omega arith
