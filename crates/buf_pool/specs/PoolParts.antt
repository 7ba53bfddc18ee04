-- How the pool is divided into parts.
use Rattle.std.specs.Prelude.{◌≡◌, ℕ, ◌<◌, ◌≤◌, List, length, slice_index_or}
use Rattle.std.specs.List.{sum_by}
use Rattle.crossbeam_utils.specs.declared.cache_padded.CachePadded.{CachePadded}
use Rattle.crossbeam_utils.specs.Padded.{padded_value}
use Rattle.page_check.specs.declared.world.World.{Ghosts}
use Rattle.buf_pool.specs.declared.part.Part.{Part}
use Rattle.buf_pool.specs.Parts.{part_count}

module _ {W : Type 0} {m : Ghosts W} where
  -- how many frames the part has memory for
  abbrev pub slots_of : CachePadded (Part W m) → ℕ
  slots_of part = length (padded_value {T = Part W m} part).slots.items

  -- how many frames the parts have memory for
  abbrev pub frames_of : List (CachePadded (Part W m)) → ℕ
  frames_of parts = sum_by slots_of parts

  -- this is the part of this number, in a pool of so many frames
  abbrev pub IsPart : ℕ → ℕ → CachePadded (Part W m) → Type 0
  IsPart frames p part =
      ((padded_value {T = Part W m} part).share.part ≡ p)
      × ((padded_value {T = Part W m} part).share.pool_frames ≡ frames)

  -- each of these is the part of its place
  abbrev pub AreInPlace : ℕ → List (CachePadded (Part W m)) → Type 0
  AreInPlace frames parts = (p : ℕ) (other : CachePadded (Part W m)) → p < length parts
      → IsPart frames p (slice_index_or parts p other)

  -- these are all parts of a pool of so many frames, by their numbers
  pub record AreParts (frames : ℕ) (parts : List (CachePadded (Part W m))) : Type 0 where
    pub range : 16 ≤ frames
    pub count : length parts ≡ part_count frames
    pub places : AreInPlace frames parts
