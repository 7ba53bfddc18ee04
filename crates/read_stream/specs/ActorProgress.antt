-- How far an actor has advanced: marks that leave nothing half done, and the counts of its executor.
use Rattle.std.specs.Prelude.{◌≡◌, ℕ, ◌+◌, ◌<◌, ◌++◌, ◌==◌, List, count_by}
use Rattle.aio_word.specs.declared.Kind.TheVariants as kind
use Rattle.aio_word.specs.declared.Known.{Known}
use Rattle.aio_word.specs.declared.Mark.{Mark}
use Rattle.aio_word.specs.declared.WaitRef.{WaitRef}
use Rattle.aio_word.specs.Events.{mark_count, any_io, kind_place}
use Rattle.aio_word.specs.Stands.{IsIn}
use Rattle.aio_word.specs.Tokens.{claimed_mark_count, io_mark_count}
use Rattle.aio_handle.specs.Execution.{CountersFollowMarks}

-- each incarnation that was claimed was executed and completed too
pub record AllClaimsCompleted (more : List Mark) : Type 0 where
  pub io : (t : WaitRef) → mark_count t any_io more ≡ mark_count t kind.Claimed more
  pub shared : (t : WaitRef) → mark_count t kind.Shared more ≡ mark_count t kind.Claimed more
  pub all : io_mark_count more ≡ claimed_mark_count more

-- the actor that knew p advanced, and now knows q; its executor's counts rose with its marks
pub record ActorAdvanced (p q : Known) (reads reads' faults faults' : ℕ) : Type 0 where
  pub more : List Mark
  pub number : q.number ≡ p.number
  pub config : q.config ≡ p.config
  pub marks : q.marks ≡ p.marks ++ more
  -- the aims of its I/Os are known as before
  pub aims : (e : WaitRef × List ℕ) → IsIn e p.aims → IsIn e q.aims
  pub claims_completed : AllClaimsCompleted more
  pub counters_follow : CountersFollowMarks reads reads' faults faults' more

-- how many results of its own I/Os the actor has taken
abbrev pub local_mark_count : List Mark → ℕ
local_mark_count marks = count_by (λ m. kind_place m.kind == 6) marks

-- the mark stands behind those that the actor had when the stream was opened
abbrev pub MarkedSince : Known → Known → Mark → Type 0
MarkedSince was p m = (more : List Mark) × (p.marks ≡ was.marks ++ more) × IsIn m more

-- each incarnation that the actor has defined it has submitted, or it is over. A backend that waits
-- then owes nobody a submission: no circle of backends waits for each other
abbrev pub AllSubmitted : Known → Type 0
AllSubmitted p = (t : WaitRef) → 0 < mark_count t kind.Defined p.marks
    → 0 < mark_count t kind.Submitted p.marks + mark_count t kind.Reclaimed p.marks
