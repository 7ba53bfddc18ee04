-- What contracts see of a table and of its actors.
use Rattle.std.specs.Prelude.{◌≡◌, ℕ, ◌+◌, ◌^◌, ◌<◌, ◌≤◌, List, length, slice_index_or}
use Rattle.aio_word.specs.declared.Config.{Config}
use Rattle.aio_word.specs.declared.Known.{Known}
use Rattle.atomic_table.specs.Seated.{TableId}
use Rattle.aio_handle.specs.TableInvariant.{initial_known}

-- the numbers that a table may be opened with
pub record IsConfig (c : Config) : Type 0 where
  pub backends : (1 ≤ c.backends) × (c.backends ≤ 16)
  pub per_backend : (1 ≤ c.per_backend) × (c.per_backend ≤ 64)
  pub runners : c.runners ≤ 32
  pub start : c.start < 2 ^ 58

-- a table, and an actor of it
pub record TableView : Type 0 where
  pub table : TableId
  pub config : Config

pub record ActorView : Type 0 where
  pub table : TableId
  pub known : Known

abbrev pub IsActorOf : TableView → ActorView → Type 0
IsActorOf t a = (a.table ≡ t.table) × (a.known.config ≡ t.config)

-- the same actor of the same table, whatever it knows
abbrev pub IsSameActor : ActorView → ActorView → Type 0
IsSameActor a b = (b.table ≡ a.table) × (b.known.config ≡ a.known.config)
    × (b.known.number ≡ a.known.number)

-- the actors of a new table, from number a on
abbrev pub AreNewActors : TableView → ℕ → List ActorView → Type 0
AreNewActors t a actors = (i : ℕ) (x : ActorView) → i < length actors
    → slice_index_or actors i x ≡
    record { table = t.table; known = initial_known t.config (a + i) }

abbrev pub actor_known : ActorView → Known
actor_known a = a.known
