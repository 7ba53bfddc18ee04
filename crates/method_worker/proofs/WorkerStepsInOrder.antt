-- A worker's turns, one after the other.
use Rattle.std.proofs.Common.{◌≡◌, ℕ, Bool, true, false, [], ◌∷◌, refl, inl, inr, ⊎_elim, subst}
use Rattle.aio_word.specs.declared.Known.{Known}
use Rattle.aio_word.specs.declared.WaitRef.{WaitRef}
use Rattle.aio_handle.specs.ClaimAttempt.{ClaimWon, ClaimLost}
use Rattle.method_worker.specs.WorkerSteps.{WorkerState, ExecutesIfClaimed, WorkerStep}
use Rattle.method_worker.specs.WorkerSteps.{WorkerAdvanced, WorkerGoesOn, WorksUntilClosed}
use Rattle.method_worker.specs.declared.worker.Step.{Step}
use Rattle.method_worker.specs.declared.worker.Step.TheVariants as step

-- whether the claim was won or lost, the actor tried the I/O
pub tries-of : (won : Bool) (t : WaitRef) (p q : Known) (reads reads' faults faults' : ℕ)
    → (won ≡ true → ClaimWon t p q reads reads' faults faults') → (won ≡ false → ClaimLost t p q)
    → ExecutesIfClaimed t p q
tries-of true t p q reads reads' faults faults' w l =
    inl (reads, reads', faults, faults', w refl)
tries-of false t p q reads reads' faults faults' w l = inr (l refl)

-- a turn that did not find the queue closed is one after which the worker goes on
goes-on : (handles number : ℕ) (m m' : WorkerState) (t : Step)
    → WorkerStep handles number m m' t → (t ≡ step.Closed → ⊥) → WorkerGoesOn m m'
goes-on handles number m m' step.Tried did more = inl did
goes-on handles number m m' (step.Rested slept) did more = inr did
goes-on handles number m m' step.Closed did more = absurd (more refl)

-- one turn more, after which there may be another
pub turns-then : (handles number : ℕ) (m k m' : WorkerState) (t : Step)
    → WorkerAdvanced m k
    → WorkerStep handles number k m' t → (t ≡ step.Closed → ⊥) → WorkerAdvanced m m'
turns-then handles number m k m' t before turned more_turns =
    let last = goes-on handles number k m' t turned more_turns in
    ⊎_elim
    (λ (none : k ≡ m). inr ([], subst (λ (z : WorkerState). WorkerGoesOn z m') none last))
    (λ some. inr (k ∷ some.0, (some.1, last))) before

-- the last turn
pub turns-last : (handles number : ℕ) (m k m' : WorkerState) (t : Step)
    → WorkerAdvanced m k
    → WorkerStep handles number k m' t → t ≡ step.Closed → WorksUntilClosed handles number m m'
turns-last handles number m k m' t before turned is = record {
  last_state = k;
  steps_before = before;
  found_closed = subst (WorkerStep handles number k m') is turned;
}
