-- The parts of a pool: the part to which a tag falls, and the frames of a part.
use Rattle.std.specs.Prelude.{◌≡◌, ℕ, zero, suc, ◌+◌, ◌*◌, ◌/◌, ◌%◌, ◌^◌, ◌<◌, ◌≤◌, min, nat_lt}
use Rattle.std.specs.Prelude.{nat_le, if◌then◌else◌, List, Some}
use Rattle.buf_pool.specs.declared.descriptor.Tag.{Tag}
use Rattle.buf_pool.specs.declared.descriptor.Descriptor.{Descriptor}
use Rattle.buf_pool.specs.declared.share.Share.{Share}
use Rattle.buf_pool.specs.Frames.{tag_at}

-- the greatest power of two that is at most n, among those up to 2 ^ k
abbrev pub power_within : ℕ → ℕ → ℕ
power_within zero n = 1
power_within (suc k) n = if nat_le (2 ^ suc k) n then 2 ^ suc k else power_within k n

-- how many parts a pool of so many frames has: the greatest power of two that leaves each part 16
-- frames, and at most 128
unfoldable pub part_count : ℕ → ℕ
part_count frames = power_within 7 (frames / 16)

-- the part to which a tag falls, of so many parts
abbrev pub part_of : ℕ → Tag → ℕ
part_of parts tag = (tag.relation + tag.block) % parts

-- how many frames a part has, in a pool of so many: all parts the same, and each of the first ones
-- one more where some are over
unfoldable pub part_size : ℕ → ℕ → ℕ
part_size frames part =
    frames / part_count frames + (if nat_lt part (frames % part_count frames) then 1 else 0)

-- the first frame of a part: those of the parts before it have the numbers below
unfoldable pub first_frame : ℕ → ℕ → ℕ
first_frame frames part =
    part * (frames / part_count frames) + min part (frames % part_count frames)

-- the frame is one of this part, in a pool of so many frames
abbrev pub IsFrameOfPart : ℕ → ℕ → ℕ → Type 0
IsFrameOfPart frames part f = (first_frame frames part ≤ f) × (f < first_frame frames (suc part))

-- the frame is one of the tag's part
abbrev pub IsFrameFor : ℕ → Tag → ℕ → Type 0
IsFrameFor frames tag f = IsFrameOfPart frames (part_of (part_count frames) tag) f

-- the tag falls to this part
abbrev pub FallsTo : Share → Tag → Type 0
FallsTo share tag = part_of (part_count share.pool_frames) tag ≡ share.part

-- the tag of each entry falls to this part
abbrev pub HasOwnTags : Share → List Descriptor → Type 0
HasOwnTags share frames = (f : ℕ) (tag : Tag) → tag_at frames f ≡ Some tag → FallsTo share tag
