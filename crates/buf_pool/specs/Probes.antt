-- How the table finds the frame of a tag: it looks at one slot after the other, from the tag's own
-- slot on, round the table.
use Rattle.std.specs.Prelude.{◌≡◌, ℕ, ◌+◌, ◌*◌, ◌^◌, ◌/◌, ◌%◌, ◌<◌, List, Option, Some, None}
use Rattle.std.specs.Prelude.{length}
use Rattle.std.specs.Prelude.{slice_index_or, count_by, is_none}
use Rattle.buf_pool.specs.declared.descriptor.Tag.{Tag}
use Rattle.buf_pool.specs.declared.descriptor.Descriptor.{Descriptor}
use Rattle.buf_pool.specs.Frames.{tag_at}

-- the slot of this number; past the last it is empty
abbrev pub slot_at : List (Option ℕ) → ℕ → Option ℕ
slot_at slots k = slice_index_or slots k None

-- the hash of the tag: the high half of a product of 64 bits (Fibonacci hashing)
unfoldable pub tag_hash : Tag → ℕ
tag_hash tag = (tag.relation * 2 ^ 32 + tag.block) * 0x9E37_79B9_7F4A_7C15 % 2 ^ 64 / 2 ^ 32

-- the slot at which the search for the tag begins: the hash, scaled to the size of the table
unfoldable pub home_slot : Tag → ℕ → ℕ
home_slot tag size = tag_hash tag * size / 2 ^ 32

-- the slot that the search for the tag looks at after this many steps
abbrev pub probe : List (Option ℕ) → Tag → ℕ → Option ℕ
probe slots tag step = slot_at slots ((home_slot tag (length slots) + step) % length slots)

-- the search for the tag comes to this frame before it comes to an empty slot
pub record ProbesFind (slots : List (Option ℕ)) (tag : Tag) (f : ℕ) : Type 0 where
  pub steps : ℕ
  pub within : steps < length slots
  pub there : probe slots tag steps ≡ Some f
  pub before : (k : ℕ) → k < steps → probe slots tag k ≡ None → ⊥

-- each slot that was taken is as before
pub record KeepsFullSlots (old new : List (Option ℕ)) : Type 0 where
  pub size : length new ≡ length old
  pub full_slots : (k : ℕ) (f : ℕ) → slot_at old k ≡ Some f → slot_at new k ≡ Some f

-- the search for the tag of each entry comes to its frame
abbrev pub IsIndexed : List (Option ℕ) → List Descriptor → Type 0
IsIndexed slots frames = (f : ℕ) (tag : Tag) → tag_at frames f ≡ Some tag → ProbesFind slots tag f

-- how many slots are empty
abbrev pub empty_slots : List (Option ℕ) → ℕ
empty_slots slots = count_by (λ s. is_none s) slots
