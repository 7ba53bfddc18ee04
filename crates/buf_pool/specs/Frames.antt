-- What the frames of the pool hold: the entry of each frame, by the frame's number.
use Rattle.std.specs.Prelude.{◌≡◌, ℕ, ◌==◌, ◌<◌, Bool, true, false, List, Option, Some, None}
use Rattle.std.specs.Prelude.{slice_index_or, slice_set, ⊤, MatchOption}
use Rattle.buf_pool.specs.declared.descriptor.Tag.{Tag}
use Rattle.buf_pool.specs.declared.descriptor.Descriptor.{Descriptor}
use Rattle.buf_pool.specs.declared.descriptor.Descriptor.TheVariants.{Free, InProgress, Valid}

-- what the frame of this number holds; a number past the last frame holds nothing
abbrev pub descriptor_at : List Descriptor → ℕ → Descriptor
descriptor_at frames f = slice_index_or frames f Free

-- the tag of the entry, if there is one
abbrev pub descriptor_tag : Descriptor → Option Tag
descriptor_tag Free = None
descriptor_tag (InProgress tag _) = Some tag
descriptor_tag (Valid tag _) = Some tag

-- the tag of the entry at the frame of this number
abbrev pub tag_at : List Descriptor → ℕ → Option Tag
tag_at frames f = descriptor_tag (descriptor_at frames f)

-- the pins of a valid entry (the refcount of `BufferDesc`, `buf_internals.h`)
abbrev pub pins_of : Descriptor → Option ℕ
pins_of Free = None
pins_of (InProgress _ _) = None
pins_of (Valid _ pins) = Some pins

-- the pins of the valid entry at the frame of this number
abbrev pub pins_at : List Descriptor → ℕ → Option ℕ
pins_at frames f = pins_of (descriptor_at frames f)

-- the entry with this many pins
abbrev pub with_pins : Descriptor → ℕ → Descriptor
with_pins Free _ = Free
with_pins (InProgress tag reference) _ = InProgress tag reference
with_pins (Valid tag _) pins = Valid tag pins

-- the frames where the valid entry at this frame has this many pins
abbrev pub frames_with_pins : List Descriptor → ℕ → ℕ → List Descriptor
frames_with_pins frames f pins = slice_set frames f (with_pins (descriptor_at frames f) pins)

-- no entry is there
abbrev pub is_free : Descriptor → Bool
is_free Free = true
is_free (InProgress _ _) = false
is_free (Valid _ _) = false

-- a valid entry without pins is there, which may be replaced
abbrev pub is_unpinned : Descriptor → Bool
is_unpinned Free = false
is_unpinned (InProgress _ _) = false
is_unpinned (Valid _ pins) = pins == 0

-- the entry is in progress or pinned
abbrev pub IsInUse : Descriptor → Type 0
IsInUse Free = ⊥
IsInUse (InProgress _ _) = ⊤
IsInUse (Valid _ pins) = 0 < pins

-- no frame has an entry of the tag
abbrev pub IsAbsent : List Descriptor → Tag → Type 0
IsAbsent frames tag = (f : ℕ) → tag_at frames f ≡ Some tag → ⊥

-- the answer is a frame with an entry of the tag, and None exactly where there is none
abbrev pub IsFrameOf : List Descriptor → Tag → Option ℕ → Type 0
IsFrameOf frames tag answer =
    MatchOption answer (IsAbsent frames tag) (λ f. tag_at frames f ≡ Some tag)
