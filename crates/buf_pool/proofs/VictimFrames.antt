-- Which frame a new entry may take.
use Rattle.std.proofs.Common.{◌≡◌, ℕ, ◌<◌, List, Option, Some, None, length, true, count_by, arith}
use Rattle.std.proofs.Common.{MatchOption}
use Rattle.std.proofs.lemmas.Bool.{false≢true}
use Rattle.buf_pool.specs.declared.descriptor.Descriptor.{Descriptor}
use Rattle.buf_pool.specs.declared.descriptor.Descriptor.TheVariants.{Free, InProgress, Valid}
use Rattle.buf_pool.specs.Frames.{descriptor_at, is_free}
use Rattle.buf_pool.specs.Answers.{IsFull, HasNoFree, IsReplaceable, IsVictim}
use Rattle.buf_pool.proofs.ElementCounts.{count_none}

-- what is free may be taken
pub free_taken : (frames : List Descriptor) (entry : Descriptor) → is_free entry ≡ true
    → IsReplaceable frames
    entry
free_taken frames Free e = tt
free_taken frames (InProgress tag reference) e = absurd (false≢true e)
free_taken frames (Valid tag pins) e = absurd (false≢true e)

-- a search for a free frame finds one that may be taken, where one is counted
pub taken_by_free : (frames : List Descriptor) (r : Option ℕ) → 0 < count_by is_free frames
    → MatchOption r (HasNoFree frames) (λ f. (f < length frames)
    × (is_free (descriptor_at frames f) ≡ true)) → MatchOption r (IsFull frames)
    (λ f. IsVictim frames f)
taken_by_free frames None some none = absurd (omega (arith, count_none is_free Free frames none))
taken_by_free frames (Some f) some h = (h.0, free_taken frames (descriptor_at frames f) h.1)
