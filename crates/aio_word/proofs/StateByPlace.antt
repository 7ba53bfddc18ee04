-- The state by the place, from Defined on.
use Rattle.std.proofs.Common.{◌≡◌, ℕ, ◌<◌, ◌==◌, Bool, true, false, cond, refl, ap, ◌∙◌}
use Rattle.std.proofs.Common.{arith, subst}
use Rattle.aio_word.specs.declared.State.{State}
use Rattle.aio_word.specs.declared.State.TheVariants.{Idle, HandedOut, Defined, Staged, Submitted}
use Rattle.aio_word.specs.declared.State.TheVariants.{CompletedIo, CompletedShared, CompletedLocal}
use Rattle.aio_word.specs.Words.{state_place}

abbrev pub state_at_place : ℕ → State
state_at_place n = cond (n == 1) Defined (cond (n == 2) Staged
    (cond (n == 3) Submitted (cond (n == 4) Submitted
    (cond (n == 5) CompletedIo (cond (n == 6) CompletedShared CompletedLocal)))))

at-own-place : (s : State) (b : Bool) → 0 < state_place s b → s ≡ state_at_place (state_place s b)
at-own-place Idle b e = absurd (omega arith)
at-own-place HandedOut b e = absurd (omega arith)
at-own-place Defined b e = refl
at-own-place Staged b e = refl
at-own-place Submitted true e = refl
at-own-place Submitted false e = refl
at-own-place CompletedIo b e = refl
at-own-place CompletedShared b e = refl
at-own-place CompletedLocal b e = refl

pub state-at : (n : ℕ) (s : State) (b : Bool) → 0 < n → state_place s b ≡ n → s ≡ state_at_place n
state-at n s b more e = at-own-place s b (omega arith) ∙ ap state_at_place e

-- with the claim
pub claim-at : (s : State) (b : Bool) → state_place s b ≡ 4 → b ≡ true
claim-at s true e = refl
claim-at s false e =
    let x : state_place Submitted false ≡ 4 = subst (λ (z : State). state_place z false ≡ 4)
    (state-at 4 s false (omega arith) e) e in absurd (omega arith)
