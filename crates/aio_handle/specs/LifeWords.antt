-- The words of a handle in the course of one life.
use Rattle.std.specs.Prelude.{ℕ, true, false}
use Rattle.aio_word.specs.declared.Word.{Word}
use Rattle.aio_word.specs.declared.Class.{Class}
use Rattle.aio_word.specs.declared.Class.TheVariants.{Unended}
use Rattle.aio_word.specs.declared.State.TheVariants.{Idle, HandedOut, Defined, Staged}
use Rattle.aio_word.specs.declared.State.TheVariants.{Submitted, CompletedIo}
use Rattle.aio_word.specs.declared.State.TheVariants.{CompletedShared, CompletedLocal}
use Rattle.aio_word.specs.Events.{make_word}

-- the words of a life
abbrev pub idle_word : ℕ → Word
idle_word g = make_word Idle false Unended g

abbrev pub handed_out_word : ℕ → Word
handed_out_word g = make_word HandedOut false Unended g

abbrev pub defined_word : ℕ → Word
defined_word g = make_word Defined false Unended g

abbrev pub staged_word : ℕ → Word
staged_word g = make_word Staged false Unended g

-- the word of an I/O that nobody has claimed, and of one that is claimed
abbrev pub unclaimed_word : ℕ → Word
unclaimed_word g = make_word Submitted false Unended g

abbrev pub claimed_word : ℕ → Word
claimed_word g = make_word Submitted true Unended g

abbrev pub executed_word : Class → ℕ → Word
executed_word class g = make_word CompletedIo true class g

abbrev pub completed_word : Class → ℕ → Word
completed_word class g = make_word CompletedShared false class g

abbrev pub taken_word : Class → ℕ → Word
taken_word class g = make_word CompletedLocal false class g
