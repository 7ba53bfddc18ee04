-- Small steps of the calls' answers.
use Rattle.std.proofs.Common.{◌≡◌, ◌≢◌, ℕ, ◌<◌, sym, ap, ◌∙◌, subst, refl, arith, Option, []}
use Rattle.std.proofs.Common.{List, Bool, IsTrue, true, false, not, ◌+◌, ◌*◌, ◌≤◌, ◌↔◌}
use mathlib.Core.Logic.{dite}
use mathlib.Core.Option.{none}
use Rattle.atomic_table.specs.Table.{Me, step}
use native.Mathlib.Decide.{ℕ_discrete}
use Rattle.aio_word.specs.declared.WaitRef.{WaitRef}
use Rattle.aio_word.specs.declared.Known.{Known}
use Rattle.aio_word.specs.declared.Word.{Word}
use Rattle.aio_word.specs.declared.State.TheVariants.{Idle}
use Rattle.aio_word.specs.declared.Class.{Class}
use Rattle.aio_word.specs.declared.Step.{Step as Event}
use Rattle.aio_word.specs.declared.Step.TheVariants as event
use Rattle.aio_word.specs.Events.{wait_ref}
use Rattle.aio_word.proofs.PackIsInjective.{packed_word-injective}
use Rattle.aio_word.specs.Words.{last_generation}
use Rattle.aio_word.specs.declared.State.{State}
use Rattle.aio_word.specs.Words.{IsDone, packed_word, state_place, word_place}
use Rattle.aio_word.specs.Words.{word_rank}
use Rattle.aio_word.specs.Stands.{IsIn, seen_rank}
use Rattle.aio_word.specs.Tokens.{IsInFlight}
use Rattle.aio_word.proofs.ReachableIsLawful.{shared-mark-total}
use Rattle.aio_handle.specs.CallEvents.{EventMade, WordLoaded, CheckAnswer, IsCompleted}
use Rattle.aio_handle.specs.declared.record.Label.{Label}
use Rattle.aio_handle.specs.LifeWords.{completed_word, taken_word}
use Rattle.aio_handle.specs.Seats.{seat_known}
use Rattle.aio_handle.specs.Steps.{StepLoadsWord}
use Rattle.aio_handle.proofs.CallSteps.{looks-saw}
use Rattle.aio_handle.proofs.TokensAfterEvent.{begun-of}

pub not-both : (b : Bool) → b ≡ true → b ≡ false → ⊥
not-both b e f = cc

-- what holds of what a clause sees holds of what is inside
pub inside-from-view : (P : Known → WaitRef → Type 0) {p q : Known} {t u : WaitRef} → p ≡ q → t ≡ u
    → P q u
    → P p t
inside-from-view P {p} {q} {t} {u} e f h = subst (λ (z : Known). P z t) (sym e)
    (subst (λ (z : WaitRef). P q z) (sym f) h)

-- a word that is not Idle is below the last generation
pub below-last : {e : Event} {h : ℕ} {w w' : Word} {aim : List ℕ} {p q : Known}
    → EventMade e h w w' aim p q → w.state ≢ Idle → w.generation < last_generation
below-last {e} {h} {w} {w'} {aim} {p} {q} m ne =
    let b = begun-of e h w w' aim p q m in
    let bound = b.lawful.bound in
    dite (ℕ_discrete w.generation last_generation) (λ x. absurd (ne (b.last x))) (λ n. omega arith)

-- a look leaves the tokens, and one that finds the result there shows the pair
pub flight-looked : (h : ℕ) (w : Word) (p q : Known) (t : WaitRef) → WordLoaded h w p q
    → IsInFlight p t
    → IsInFlight q t
flight-looked h w p q t m f = subst (λ (z : Known). IsInFlight z t) (sym m.is)
    record { since = f.since; until = f.until }

-- what a look tells whoever asked about an incarnation
pub check-answers : (p q : Known) (t : WaitRef) (answer : Bool) (w : Word)
    → WordLoaded t.handle w p q
    → (IsTrue answer ↔ IsDone w t.generation) → CheckAnswer t answer p q
check-answers p q t answer w look exact = record {
  word = w;
  word_load = look;
  exact = exact;
  shared = λ yes lo. shared-mark-total p.config p t.handle w t.generation look.moment lo
      (exact.0 yes);
}

pub rank-completed : (w : Word) (g : ℕ) → IsCompleted w g → word_rank w ≡ 8 * g + 6
rank-completed w g (s, e) = let pl : word_place w ≡ 6 = ap
    (λ (z : State). state_place z w.claimed) s in
    omega arith

pub seen-completed : (h : ℕ) (w : Word) (p q : Known) (g : ℕ) → WordLoaded h w p q → IsCompleted w g
    → 8 * g + 6 ≤ seen_rank q h
seen-completed h w p q g m d = let a = m.now in let b = rank-completed w g d in omega arith

pub is-true : (b : Bool) → not b ≡ false → b ≡ true
is-true true e = refl
is-true false e = absurd (cc)

-- as the load found it, and no step between changed the class: the step found the same generation
pub note-looked : (h : ℕ) (w : Word) (p q : Known) (x : WaitRef × List ℕ) → WordLoaded h w p q
    → IsIn x p.aims → IsIn x q.aims
note-looked h w p q x m i = subst (λ (z : Known). IsIn x z.aims) (sym m.is) i

-- what a load tells whoever waits for an I/O in flight, where the word w was found
pub flight-loaded : {R : Type 0} {slots n : ℕ} (t : WaitRef) {m m' : Me (Option R) (List Known)}
    (w : Word) → StepLoadsWord (step slots t.handle 0 0 none) m n m' → packed_word w ≡ n
    → IsInFlight (seat_known m.0) t
    → WordLoaded t.handle w (seat_known m.0) (seat_known m'.0) × IsInFlight (seat_known m'.0) t
    × (IsCompleted w t.generation → 8 * t.generation + 6 ≤ seen_rank (seat_known m'.0) t.handle)
flight-loaded t {m = m} {m' = m'} w load is flight =
    let (v, found, seen) = looks-saw load in
    let look : WordLoaded t.handle w (seat_known m.0) (seat_known m'.0) =
    subst (λ (z : Word). WordLoaded t.handle z (seat_known m.0) (seat_known m'.0))
    (packed_word-injective v w (found ∙ sym is)) seen in (
      look,
      flight-looked t.handle w (seat_known m.0) (seat_known m'.0) t look flight,
      (λ d. seen-completed t.handle w (seat_known m.0) (seat_known m'.0) t.generation look d),
    )

-- what a call tells that found the result of an I/O in flight and took it: its actor knew p before
-- the load, mid after it, and q after the event Local
pub record ResultTaken {R : Type 0} (label : R → Label) (aim_in : R → List ℕ) (Fits : R → Type 0)
    (t : WaitRef) (w : Word) (io : R) (p mid q : Known) : Type 0 where
  pub word_load : WordLoaded t.handle w p mid
  pub done : IsCompleted w t.generation
  pub class : Class
  pub event_made : EventMade event.Local t.handle (completed_word class t.generation)
      (taken_word class t.generation) []
      mid q
  pub label_is : label io ≡
      record { handle = t.handle; generation = t.generation; ended = class; settled = false }
  pub aimed : (a : List ℕ) → IsIn (wait_ref t.handle t.generation, a) mid.aims → aim_in io ≡ a
  pub fits : Fits io
