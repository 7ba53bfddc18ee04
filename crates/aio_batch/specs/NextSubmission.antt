-- What the submission of the next I/O of a batch did.
use Rattle.std.specs.Prelude.{◌≡◌, ℕ, List, [], ◌∷◌}
use Rattle.aio_word.specs.declared.Known.{Known}
use Rattle.aio_word.specs.declared.WaitRef.{WaitRef}
use Rattle.aio_word.specs.declared.Step.TheVariants.{Submit}
use Rattle.aio_word.specs.Stands.{IsIn}
use Rattle.aio_word.specs.Tokens.{IsInFlight}
use Rattle.aio_handle.specs.LifeWords.{staged_word, unclaimed_word}
use Rattle.aio_handle.specs.CallEvents.{EventMade}
use Rattle.aio_handle.specs.Execution.{ExecutesAll}

-- the first token of the batch `before`, which is of the reference t, was taken off and submitted,
-- and then the method began it
pub record IsNextSubmission {R : Type 0} (aim_in : R → List ℕ) (before after : List (WaitRef × R))
    (t : WaitRef) (p q : Known) (reads reads' faults faults' : ℕ) : Type 0 where
  pub token : WaitRef × R
  pub first : before ≡ token ∷ after
  pub reference : t ≡ token.0
  -- what the actor knew between the two
  pub between : Known
  pub event_made : EventMade Submit t.handle (staged_word t.generation) (unclaimed_word t.generation)
      (aim_in token.1)
      p between
  pub begun : ExecutesAll [] between q reads reads' faults faults'
  pub in_flight : IsInFlight q t
  pub aim : IsIn (t, aim_in token.1) q.aims
