-- What the calls of the index answer, and what they leave.
use Rattle.std.specs.Prelude.{◌≡◌, ℕ, ◌+◌, ◌-◌, ◌^◌, ◌<◌, ◌⊎◌, ⊤, Bool, true, false}
use Rattle.std.specs.Prelude.{List, length, slice_set}
use Rattle.aio_word.specs.declared.WaitRef.{WaitRef}
use Rattle.buf_pool.specs.declared.descriptor.Tag.{Tag}
use Rattle.buf_pool.specs.declared.descriptor.Descriptor.{Descriptor}
use Rattle.buf_pool.specs.declared.descriptor.Descriptor.TheVariants.{Free, InProgress, Valid}
use Rattle.buf_pool.specs.declared.index.Look.{Look}
use Rattle.buf_pool.specs.declared.index.Look.TheVariants as look
use Rattle.buf_pool.specs.declared.index.Begun.{Begun}
use Rattle.buf_pool.specs.declared.index.Begun.TheVariants as begun
use Rattle.buf_pool.specs.Frames.{descriptor_at, is_free, IsInUse, IsAbsent, frames_with_pins}

-- the entry of the tag is valid, at this frame
abbrev pub IsValidAt : List Descriptor → Tag → ℕ → Type 0
IsValidAt frames tag f = (pins : ℕ) × (descriptor_at frames f ≡ Valid tag pins)

-- the entry of the tag is in progress with this reference
abbrev pub IsInProgressWith : List Descriptor → Tag → WaitRef → Type 0
IsInProgressWith frames tag reference = (f : ℕ)
    × (descriptor_at frames f ≡ InProgress tag reference)

-- no entry of the tag is in progress with this reference
abbrev pub IsNotInProgress : List Descriptor → Tag → WaitRef → Type 0
IsNotInProgress frames tag reference = (f : ℕ) → descriptor_at frames f ≡ InProgress tag reference
    → ⊥

-- what the entry of the tag says
abbrev pub LookAnswers : List Descriptor → Tag → Look → Type 0
LookAnswers frames tag (look.Hit f) = IsValidAt frames tag f
LookAnswers frames tag (look.Busy reference) = IsInProgressWith frames tag reference
LookAnswers frames tag look.Absent = IsAbsent frames tag

-- each frame is in progress or pinned
abbrev pub IsFull : List Descriptor → Type 0
IsFull frames = (f : ℕ) → f < length frames → IsInUse (descriptor_at frames f)

-- no frame is without an entry
abbrev pub HasNoFree : List Descriptor → Type 0
HasNoFree frames = (f : ℕ) → f < length frames → is_free (descriptor_at frames f) ≡ false

-- a new entry may take this place: nothing, or an unpinned valid entry where no frame is free
abbrev pub IsReplaceable : List Descriptor → Descriptor → Type 0
IsReplaceable _ Free = ⊤
IsReplaceable _ (InProgress _ _) = ⊥
IsReplaceable frames (Valid _ pins) = (pins ≡ 0) × HasNoFree frames

-- a new entry may be put at this frame
abbrev pub IsVictim : List Descriptor → ℕ → Type 0
IsVictim frames f = (f < length frames) × IsReplaceable frames (descriptor_at frames f)

-- what `begin` answers, and the frames that it leaves
abbrev pub BeginAnswers : List Descriptor → List Descriptor → Tag → WaitRef → Begun → Type 0
BeginAnswers old new tag reference (begun.Yes f) =
    IsAbsent old tag × IsVictim old f × (new ≡ slice_set old f (InProgress tag reference))
BeginAnswers old new tag _ (begun.Busy holder) = IsInProgressWith old tag holder × (new ≡ old)
BeginAnswers old new tag _ (begun.Hit f) = IsValidAt old tag f × (new ≡ old)
BeginAnswers old new tag _ begun.NoRoom = IsAbsent old tag × IsFull old × (new ≡ old)

-- the page of the tag has as many pins as can be counted
abbrev pub IsPinnedFully : List Descriptor → Tag → Type 0
IsPinnedFully frames tag = (f : ℕ) × (descriptor_at frames f ≡ Valid tag (2 ^ 32 - 1))

-- what a look that pins answers, and the frames that it leaves
abbrev pub PinAnswers : List Descriptor → List Descriptor → Tag → Look → Type 0
PinAnswers old new tag (look.Hit f) =
    (pins : ℕ) × (descriptor_at old f ≡ Valid tag pins) × (new ≡ frames_with_pins old f (pins + 1))
PinAnswers old new tag (look.Busy reference) = IsInProgressWith old tag reference × (new ≡ old)
PinAnswers old new tag look.Absent = (IsAbsent old tag ⊎ IsPinnedFully old tag) × (new ≡ old)

-- the page of the tag is in this frame, with a pin
abbrev pub IsPinnedAt : List Descriptor → Tag → ℕ → Type 0
IsPinnedAt frames tag f = (pins : ℕ) × (descriptor_at frames f ≡ Valid tag (pins + 1))

-- the entry after its I/O ended: valid without pins, or dropped
abbrev pub entry_after_io : Tag → Bool → Descriptor
entry_after_io tag true = Valid tag 0
entry_after_io tag false = Free
