-- Two actors of one table at one moment.
use Rattle.std.specs.Prelude.{◌≡◌, ◌≢◌, ℕ, List, [], ◌∷◌, length}
use Rattle.atomic_table.specs.Table.{Me, Step}
use Rattle.aio_word.specs.declared.Config.{Config}
use Rattle.aio_word.specs.declared.Known.{Known}
use Rattle.aio_word.specs.Events.{Machine, IsReachable, actor_count}
use Rattle.aio_word.specs.Stands.{IsIn, MachineHasParts, Stands}

-- a moment at which one actor's knowledge is p and another one's is q: a state of the machine, for
-- whose words the lists of all actors stand
pub record StandTogether (c : Config) (p q : Known) : Type 0 where
  pub machine : Machine
  pub parts : List Known
  pub reached : IsReachable c machine
  pub is : MachineHasParts c machine machine.words parts
  pub words_match_lists : Stands c machine.words parts
  pub all : length parts ≡ actor_count c
  pub one : IsIn p parts
  pub other : IsIn q parts
  pub apart : p.number ≢ q.number

-- a load that changes nothing: where the seat carries two lists, they stand together
abbrev pub Compares : {S : Type 0} → Step S → Me S (List Known) → ℕ → Me S (List Known) → Type 0
Compares st m n m' = (m' ≡ m)
    × ((p q : Known) → m.0 ≡ q ∷ p ∷ [] → StandTogether p.config p q)
