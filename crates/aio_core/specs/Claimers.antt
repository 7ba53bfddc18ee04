-- What the program keeps beside words and lists, so that no step reads a list: the last claimer
-- of each handle.
use Rattle.std.specs.Prelude.{◌≡◌, ℕ, ◌<◌, ◌≤◌, ◌^◌, true, List, length}
use Rattle.std.specs.Prelude.{Some, slice_get, slice_set, slice_index_or}
use Rattle.aio_word.specs.declared.Config.{Config}
use Rattle.aio_word.specs.declared.Event.{Event}
use Rattle.aio_word.specs.declared.Mark.{Mark}
use Rattle.aio_word.specs.declared.Step.{Step}
use Rattle.aio_word.specs.declared.Step.TheVariants as step
use Rattle.aio_word.specs.declared.Word.{Word}
use Rattle.aio_word.specs.Words.{word_place}
use Rattle.aio_word.specs.Events.{Machine, handle_count, has_claimed}
use Rattle.aio_word.specs.Stands.{IsLawfulMachine}

-- 1 to 16 backends with 1 to 64 handles each, at most 32 runners, and a first generation that the
-- word has room for
pub record IsInBounds (c : Config) : Type 0 where
  pub some_backends : 0 < c.backends
  pub few_backends : c.backends ≤ 16
  pub some_handles : 0 < c.per_backend
  pub few_handles : c.per_backend ≤ 64
  pub few_runners : c.runners ≤ 32
  pub start : c.start < 2 ^ 58

-- the actor's list has the Claimed mark of the incarnation
pub record IsClaimer (m : Machine) (actor handle generation : ℕ) : Type 0 where
  pub marks : List Mark
  pub list : slice_get m.lists actor ≡ Some marks
  pub claimed : has_claimed handle generation marks ≡ true

-- the lists stand for the words, and where the word's incarnation is claimed, the handle's last
-- claimer has claimed it
pub record MachineInvariant (c : Config) (m : Machine) (claimers : List ℕ) : Type 0 where
  pub bounds : IsInBounds c
  pub lawful_machine : IsLawfulMachine c m
  pub one_per_handle : length claimers ≡ handle_count c
  pub claimer : (h : ℕ) (w : Word) → slice_get m.words h ≡ Some w → 3 < word_place w
      → IsClaimer m (slice_index_or claimers h 0) h w.generation

-- the last claimers after the event
abbrev pub claimers_after_step : Step → List ℕ → ℕ → ℕ → List ℕ
claimers_after_step step.Claim claimers handle actor = slice_set claimers handle actor
claimers_after_step _ claimers handle actor = claimers

abbrev pub claimers_after_event : List ℕ → Event → List ℕ
claimers_after_event claimers e = claimers_after_step e.step claimers e.handle e.actor
