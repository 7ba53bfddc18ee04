-- What a worker does with the references that it pops.
use Rattle.std.specs.Prelude.{◌≡◌, ℕ, ◌⊎◌, List, [], ◌∷◌}
use Rattle.aio_word.specs.declared.Known.{Known}
use Rattle.aio_word.specs.declared.WaitRef.{WaitRef}
use Rattle.aio_handle.specs.ClaimAttempt.{ClaimWon, ClaimLost}
use Rattle.method_worker.specs.QueueViews.{SeatView}
use Rattle.method_worker.specs.SeatCalls.{SeatPops, FoundClosed}
use Rattle.method_worker.specs.declared.worker.Step.{Step}
use Rattle.method_worker.specs.declared.worker.Step.TheVariants as step

-- a moment of a worker: its seat, and what its actor knows
pub record WorkerState : Type 0 where
  pub seat : SeatView
  pub known : Known

abbrev pub worker_state : SeatView → Known → WorkerState
worker_state s p = record { seat = s; known = p }

-- the actor claimed the incarnation and executed it, or found that it could not be claimed, and did
-- nothing else
abbrev pub ExecutesIfClaimed : WaitRef → Known → Known → Type 0
ExecutesIfClaimed t p q = ((reads : ℕ) × (reads' : ℕ) × (faults : ℕ) × (faults' : ℕ)
    × ClaimWon t p q reads reads' faults faults') ⊎ ClaimLost t p q

-- the seat popped one reference, and then the actor tried it
abbrev pub PopsAndExecutes : WorkerState → WorkerState → Type 0
PopsAndExecutes m m' = (t : WaitRef) × (word : ℕ) × SeatPops (t ∷ []) (word ∷ []) m.seat m'.seat
    × ExecutesIfClaimed t m.known m'.known

-- the seat found no entry, and the actor did nothing
abbrev pub FindsNoEntry : WorkerState → WorkerState → ℕ → Type 0
FindsNoEntry m m' word = SeatPops [] (word ∷ []) m.seat m'.seat × (m'.known ≡ m.known)

-- a turn after which the worker goes on: it tried one reference, or found none
abbrev pub WorkerGoesOn : WorkerState → WorkerState → Type 0
WorkerGoesOn m m' = PopsAndExecutes m m' ⊎ ((word : ℕ) × FindsNoEntry m m' word)

-- the last turn: it found the queue empty and closed
abbrev pub WorkerStops : ℕ → ℕ → WorkerState → WorkerState → Type 0
WorkerStops handles number m m' = (word : ℕ) × FindsNoEntry m m' word
    × FoundClosed handles number word m'.seat

-- what a turn did, by its answer
abbrev pub WorkerStep : ℕ → ℕ → WorkerState → WorkerState → Step → Type 0
WorkerStep handles number m m' step.Tried = PopsAndExecutes m m'
WorkerStep handles number m m' (step.Rested slept) = (word : ℕ) × FindsNoEntry m m' word
WorkerStep handles number m m' step.Closed = WorkerStops handles number m m'

-- turns after which the worker went on, from one moment to another: each begins where the one
-- before it ended; the beginnings of all but the first, the last of them in front
abbrev pub StepSequence : List WorkerState → WorkerState → WorkerState → Type 0
StepSequence [] m m' = WorkerGoesOn m m'
StepSequence (k ∷ before) m m' = StepSequence before m k × WorkerGoesOn k m'

-- from one moment to another the worker made such turns, or none
abbrev pub WorkerAdvanced : WorkerState → WorkerState → Type 0
WorkerAdvanced m m' = (m' ≡ m) ⊎ ((turns : List WorkerState) × StepSequence turns m m')

-- the worker made turns, and in the last one found the queue empty and closed
pub record WorksUntilClosed (handles : ℕ) (number : ℕ) (m m' : WorkerState) : Type 0 where
  pub last_state : WorkerState
  pub steps_before : WorkerAdvanced m last_state
  pub found_closed : WorkerStops handles number last_state m'
