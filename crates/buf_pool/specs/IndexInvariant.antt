-- What the parts of the index know of each other.
use Rattle.std.specs.Prelude.{◌≡◌, ℕ, ◌*◌, ◌<◌, ◌≤◌, Bool, List, Option, length, count_by}
use Rattle.buf_pool.specs.declared.descriptor.Descriptor.{Descriptor}
use Rattle.buf_pool.specs.Frames.{is_free}
use Rattle.buf_pool.specs.PoolLawful.{PoolLawful}
use Rattle.buf_pool.specs.Probes.{IsIndexed, empty_slots}

-- the table has four slots for each frame, finds each entry, and has at least so many slots left
pub record IsTable (slots : List (Option ℕ)) (count : ℕ) (frames : List Descriptor) : Type 0 where
  pub size : length slots ≡ 4 * length frames
  pub indexed : IsIndexed slots frames
  pub left : count ≤ empty_slots slots

-- the clock has a mark for each frame, and its hand stands at a frame
pub record IsClock (used : List Bool) (at : ℕ) (frames : List Descriptor) : Type 0 where
  pub size : length used ≡ length frames
  pub hand : at < length frames

-- the frames are lawful and 16 to 16384, so many are free, and the search for one begins at a frame
pub record AreFrames (handles : ℕ) (frames : List Descriptor) (count from : ℕ) : Type 0 where
  pub lawful : PoolLawful handles frames
  pub least : 16 ≤ length frames
  pub most : length frames ≤ 16384
  pub vacant : count ≡ count_by is_free frames
  pub start : from < length frames
