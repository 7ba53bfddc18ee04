-- The handles that an actor owns, as it remembers them.
use Rattle.std.specs.Prelude.{◌≡◌, ℕ, ◌+◌, ◌<◌, ◌≤◌, false, List, length, slice_index_or}
use Rattle.aio_word.specs.Words.{last_generation}
use Rattle.aio_handle.specs.declared.own_handles.OwnHandle.{OwnHandle}

-- what is read at a place that is not there
abbrev pub no_handle : OwnHandle
no_handle = record { generation = 0; is_defined = false }

abbrev pub own_at : List OwnHandle → ℕ → OwnHandle
own_at own place = slice_index_or own place no_handle

-- the handle is not defined, and below the last generation
abbrev pub IsFreeHandle : OwnHandle → Type 0
IsFreeHandle x = (x.is_defined ≡ false) × (x.generation < last_generation)

-- how many more lives each of these handles can have
pub record HasRoom (own : List OwnHandle) (room : ℕ) : Type 0 where
  pub none : length own ≡ 0 → room ≡ 0
  pub for_each : (place : ℕ) → place < length own
      → (own_at own place).generation + room ≤ last_generation
  pub exact : 0 < length own → (place : ℕ) × (place < length own)
      × ((own_at own place).generation + room ≡ last_generation)
