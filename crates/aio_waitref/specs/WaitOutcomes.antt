-- What an owner does while it waits for its own I/O, and when it takes the result.
use Rattle.std.specs.Prelude.{◌⊎◌, ℕ, []}
use Rattle.aio_word.specs.Tokens.{AppendsMarks}
use Rattle.aio_word.specs.declared.WaitRef.{WaitRef}
use Rattle.aio_word.specs.declared.Known.{Known}
use Rattle.aio_handle.specs.declared.record.Label.{Label}
use Rattle.aio_handle.specs.Execution.{ExecutesAll}
use Rattle.aio_handle.specs.CallEvents.{TakesResult}
use Rattle.aio_handle.specs.ClaimAttempt.{ClaimWon, ClaimLost}

-- the claim was lost, and from then on the actor only looked
pub record LostThenLooked (t : WaitRef) (p q : Known) : Type 0 where
  pub between : Known
  pub lost : ClaimLost t p between
  pub looks : AppendsMarks between q []

-- the actor that knew p tried one claim of t: it won and ended it, or it lost and rested; then it
-- took the result of t, with this label, and now knows q. The counts are those of its executor
pub record WaitsAndTakes (t : WaitRef) (p q : Known) (reads reads' faults faults' : ℕ) (l : Label)
    : Type 0 where
  pub between : Known
  pub claim_attempt : ClaimWon t p between reads reads' faults faults' ⊎ LostThenLooked t p between
  pub execution : ExecutesAll [] p between reads reads' faults faults'
  pub result_taken : TakesResult t between q l
