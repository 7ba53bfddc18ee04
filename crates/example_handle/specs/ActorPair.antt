-- What the parts of the example know of the table's two actors.
use Rattle.std.specs.Prelude.{◌≡◌, ℕ, [], ◌∷◌}
use Rattle.aio_word.specs.declared.WaitRef.{WaitRef}
use Rattle.aio_word.specs.declared.Known.{Known}
use Rattle.aio_word.specs.Stands.{IsIn}
use Rattle.aio_word.specs.Tokens.{IsInFlight}
use Rattle.aio_handle.specs.ContractViews.{TableView, ActorView, IsActorOf}
use Rattle.aio_handle.specs.EndStates.{HasNoOwnerTokens}
use Rattle.aio_fixtures.specs.Lives.{HasUnreclaimed}

-- an actor of the table that has no token out
abbrev pub IsIdle : TableView → ActorView → Type 0
IsIdle table actor = IsActorOf table actor × HasNoOwnerTokens actor.known

-- the table has these two actors and no other: a backend, which is number 0, and a runner
pub record ArePair (table : TableView) (backend runner : ActorView) : Type 0 where
  pub idle : IsIdle table backend × IsIdle table runner
  pub numbers : (table.config.backends ≡ 1) × (table.config.runners ≡ 1)
  pub first : backend.known.number ≡ 0

-- the I/O is in flight, about this number, and the only token of its backend
pub record IsInFlightAbout (t : WaitRef) (number : ℕ) (q : Known) : Type 0 where
  pub in_flight : IsInFlight q t
  pub only : HasUnreclaimed (t ∷ []) q
  pub aim : IsIn (t, number ∷ []) q.aims
