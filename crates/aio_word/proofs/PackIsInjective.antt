-- A number packs at most one lawful word, and the rank tells whether an incarnation is done.
use Rattle.std.proofs.Common.{◌≡◌, ℕ, ◌+◌, ◌*◌, ◌<◌, ◌≤◌, ◌==◌, Bool, true, false, cond, refl, sym}
use Rattle.std.proofs.Common.{ap, ◌∙◌, inl, inr, arith}
use Rattle.std.proofs.lemmas.Bool.Decides.{nat_tests}
use mathlib.Core.Logic.{dite}
use native.Mathlib.Decide.{ℕ_discrete}
use Rattle.aio_word.specs.declared.Class.{Class}
use Rattle.aio_word.specs.declared.Class.TheVariants.{Unended, Whole, Short, Failed}
use Rattle.aio_word.specs.declared.State.{State}
use Rattle.aio_word.specs.declared.State.TheVariants.{Idle, HandedOut, Defined, Staged, Submitted}
use Rattle.aio_word.specs.declared.State.TheVariants.{CompletedIo, CompletedShared, CompletedLocal}
use Rattle.aio_word.specs.declared.Word.{Word}
use Rattle.aio_word.specs.Words.{packed_word, state_place, word_rank, number_of_state}
use Rattle.aio_word.specs.Words.{number_of_class}
use Rattle.aio_word.specs.Words.{IsEnded, IsDone}
use Rattle.aio_word.specs.Events.{make_word}
use Rattle.aio_word.proofs.RowConditions.{same-state}
use Rattle.aio_word.proofs.AppendKeepsHandle.{place-small}

pub state-bound : (s : State) → number_of_state s < 8
state-bound Idle = omega arith
state-bound HandedOut = omega arith
state-bound Defined = omega arith
state-bound Staged = omega arith
state-bound Submitted = omega arith
state-bound CompletedIo = omega arith
state-bound CompletedShared = omega arith
state-bound CompletedLocal = omega arith

pub class-bound : (c : Class) → number_of_class c < 4
class-bound Unended = omega arith
class-bound Whole = omega arith
class-bound Short = omega arith
class-bound Failed = omega arith

pub bit-bound : (b : Bool) → cond {A = ℕ} b 1 0 < 2
bit-bound true = omega arith
bit-bound false = omega arith

abbrev class_named : ℕ → Class
class_named n = cond (n == 0) Unended (cond (n == 1) Whole (cond (n == 2) Short Failed))

class-again : (c : Class) → class_named (number_of_class c) ≡ c
class-again Unended = refl
class-again Whole = refl
class-again Short = refl
class-again Failed = refl

bit-again : (b : Bool) → (cond {A = ℕ} b 1 0 == 1) ≡ b
bit-again true = refl
bit-again false = refl

pub packed_word-injective : (v w : Word) → packed_word v ≡ packed_word w → v ≡ w
packed_word-injective v w e =
    let a = state-bound v.state in let b = class-bound v.class in let d = bit-bound v.claimed in
    let a' = state-bound w.state in let b' = class-bound w.class in let d' = bit-bound w.claimed in
    let es : number_of_state v.state ≡ number_of_state w.state = omega arith in
    let ec : number_of_class v.class ≡ number_of_class w.class = omega arith in
    let eb : cond {A = ℕ} v.claimed 1 0 ≡ cond w.claimed 1 0 = omega arith in
    let eg : v.generation ≡ w.generation = omega arith in
    let s : v.state ≡ w.state = same-state v.state w.state (grind (arith, nat_tests)) in
    let c : v.class ≡ w.class = sym (class-again v.class)
    ∙ (ap class_named ec ∙ class-again w.class) in
    let k : v.claimed ≡ w.claimed = sym (bit-again v.claimed)
    ∙ (ap (λ (n : ℕ). n == 1) eb ∙ bit-again w.claimed) in
    λ i. make_word (s i) (k i) (c i) (eg i)

ended-at : (s : State) (b : Bool) → 6 ≤ state_place s b → IsEnded s
ended-at Idle b h = absurd (omega arith)
ended-at HandedOut b h = absurd (omega arith)
ended-at Defined b h = absurd (omega arith)
ended-at Staged b h = absurd (omega arith)
ended-at Submitted true h = absurd (omega arith)
ended-at Submitted false h = absurd (omega arith)
ended-at CompletedIo b h = absurd (omega arith)
ended-at CompletedShared b h = tt
ended-at CompletedLocal b h = tt

-- an incarnation is done where its Shared mark is among those that the rank counts
pub done-by-rank : (w : Word) (g : ℕ) → 8 * g + 6 ≤ word_rank w → IsDone w g
done-by-rank w g h = let small = place-small w.state w.claimed in dite (ℕ_discrete w.generation g)
    (λ e. inr (e, ended-at w.state w.claimed (omega arith)))
    (λ n. inl (omega arith))
