-- What the conditions of a row tell.
use Rattle.std.proofs.Common.{◌≡◌, ℕ, Bool, true, false, not, cond, ◌&&◌, ◌==◌, refl, sym, ap, ◌∙◌}
use Rattle.std.proofs.Common.{arith, Some}
use Rattle.std.proofs.lemmas.Bool.Decides.{nat_tests}
use Rattle.aio_word.specs.declared.State.{State}
use Rattle.aio_word.specs.declared.State.TheVariants.{Idle, HandedOut, Defined, Staged, Submitted}
use Rattle.aio_word.specs.declared.State.TheVariants.{CompletedIo, CompletedShared, CompletedLocal}
use Rattle.aio_word.specs.declared.Word.{Word}
use Rattle.aio_word.specs.Words.{number_of_state}
use Rattle.aio_word.specs.Events.{some_if}

abbrev state_of_number : ℕ → State
state_of_number n = cond (n == 0) Idle
    (cond (n == 1) HandedOut
    (cond (n == 2) Defined
    (cond (n == 3) Staged
    (cond (n == 4) Submitted
    (cond (n == 5) CompletedIo (cond (n == 6) CompletedShared CompletedLocal))))))

state_of_number-inverse : (s : State) → state_of_number (number_of_state s) ≡ s
state_of_number-inverse Idle = refl
state_of_number-inverse HandedOut = refl
state_of_number-inverse Defined = refl
state_of_number-inverse Staged = refl
state_of_number-inverse Submitted = refl
state_of_number-inverse CompletedIo = refl
state_of_number-inverse CompletedShared = refl
state_of_number-inverse CompletedLocal = refl

pub same-state : (s t : State) → (number_of_state s == number_of_state t) ≡ true → s ≡ t
same-state s t e = let n : number_of_state s ≡ number_of_state t = grind (arith, nat_tests) in
    sym (state_of_number-inverse s) ∙ (ap state_of_number n ∙ state_of_number-inverse t)

pub some_if-true : (b : Bool) (w w' : Word) → some_if b w ≡ Some w' → (b ≡ true) × (w ≡ w')
some_if-true true w w' e = (refl, cc)
some_if-true false w w' e = absurd (cc)

pub and-both : (a b : Bool) → (a && b) ≡ true → (a ≡ true) × (b ≡ true)
and-both true true e = (refl, refl)
and-both true false e = absurd (cc)
and-both false b e = absurd (cc)

pub not-true : (b : Bool) → not b ≡ true → b ≡ false
not-true true e = absurd (cc)
not-true false e = refl
