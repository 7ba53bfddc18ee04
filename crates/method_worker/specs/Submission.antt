-- What is done with I/Os that were just submitted.
use Rattle.std.specs.Prelude.{◌≡◌, ℕ, ◌⊎◌, List, [], ◌∷◌, length, take, drop}
use Rattle.std.specs.List.{All}
use Rattle.aio_word.specs.declared.Known.{Known}
use Rattle.aio_word.specs.declared.WaitRef.{WaitRef}
use Rattle.aio_handle.specs.ClaimAttempt.{OwnerKnowsClaimed}
use Rattle.method_worker.specs.QueueViews.{SeatView}
use Rattle.method_worker.specs.SeatCalls.{SeatPushes, WasFull}

-- either the seat pushed the reference and the actor did nothing, or the queue was full at a moment
-- of the call, the seat did nothing, and the actor has seen to its I/O
abbrev pub PushesOrTriesToExecute : ℕ → WaitRef → SeatView → SeatView → Known → Known → Type 0
PushesOrTriesToExecute handles t s s' p q = (SeatPushes (t ∷ []) s s' × (q ≡ p))
    ⊎ ((s' ≡ s) × WasFull handles s × OwnerKnowsClaimed t p q)

-- The seat pushed the first of the references. These are all of them, and the actor did nothing;
-- or the queue was then full at a moment of the call, and the actor has seen to the I/Os of the
-- rest.
pub record PushesThenExecutes (handles : ℕ) (refs : List WaitRef) (s s' : SeatView) (p q : Known)
    : Type 0 where
  pub count : ℕ
  pub seat_pushes : SeatPushes (take count refs) s s'
  pub all_or_full : ((count ≡ length refs) × (q ≡ p)) ⊎ WasFull handles s'
  pub rest_claimed : All (λ t. OwnerKnowsClaimed t p q) (drop count refs)
