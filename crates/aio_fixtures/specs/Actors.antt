-- What is known of an actor of a table.
use Rattle.std.specs.Prelude.{◌≡◌, List, [], map}
use Rattle.std.specs.List.{All}
use Rattle.aio_handle.specs.ContractViews.{TableView, ActorView, IsActorOf, actor_known}
use Rattle.aio_handle.specs.EndStates.{NoneHasOwnerTokens}
use Rattle.aio_handle.specs.declared.record.Label.{Label}
use Rattle.aio_handle.specs.Labels.{bound_label}
use Rattle.aio_word.specs.declared.WaitRef.{WaitRef}
use Rattle.aio_word.specs.Stands.{IsIn}
use Rattle.aio_word.specs.Tokens.{IsClaimed}

-- actors of this table that are at rest
pub record AreAtRest (table : TableView) (actors : List ActorView) : Type 0 where
  pub of_table : All (IsActorOf table) actors
  pub no_owner_tokens : NoneHasOwnerTokens (map actor_known actors)

-- an actor of the table has claimed t, and the record of the token has this label and no aim
pub record HasClaimed (table : TableView) (actor : ActorView) (t : WaitRef)
    (l : Label) : Type 0 where
  pub of_table : IsActorOf table actor
  pub token : IsClaimed actor.known t
  pub aim : IsIn (t, []) actor.known.aims
  pub label : l ≡ bound_label t.handle t.generation
