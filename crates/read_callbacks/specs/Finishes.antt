-- What the places of pages were told.
use Rattle.std.specs.Prelude.{◌≡◌, ℕ, List, ◌++◌, Option, Some, None, Bool}
use Rattle.aio_word.specs.declared.WaitRef.{WaitRef}

-- one block is done under a wait reference, with its page where that is good and not marked
pub record Finish : Type 0 where
  pub relation : ℕ
  pub block : ℕ
  pub checksums : Bool
  pub reference : WaitRef
  pub page : Option (List ℕ)

-- the list grew by these, where it is told
abbrev pub FinishesGrew : Option (List Finish) → Option (List Finish) → List Finish → Type 0
FinishesGrew None after more = after ≡ None
FinishesGrew (Some before) after more = after ≡ Some (before ++ more)
