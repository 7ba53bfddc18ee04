-- What a call that is lent an executor does to its actor's list and to the executor's counts.
use Rattle.std.specs.Prelude.{◌≡◌, ℕ, ◌+◌, ◌-◌, ◌^◌, ◌<◌, ◌≤◌, ◌++◌, List}
use Rattle.aio_word.specs.declared.Mark.{Mark}
use Rattle.aio_word.specs.declared.Known.{Known}
use Rattle.aio_word.specs.Tokens.{ClaimsAreCompleted, AppendsMarks, io_mark_count}
use Rattle.aio_word.specs.Tokens.{failed_mark_count}

-- the last value of a count, at which it stands still
abbrev pub last_count : ℕ
last_count = 2 ^ 64 - 1

-- the counts rise with the marks: `reads` by the number of Io marks, `faults` by at least the
-- failed ones among them
pub record CountersFollowMarks (reads reads' faults faults' : ℕ) (more : List Mark) : Type 0 where
  pub read_each : reads' < last_count → reads' ≡ reads + io_mark_count more
  pub fault_each : faults' < last_count → faults + failed_mark_count more ≤ faults'

-- the actor went on, and each incarnation that it has executed has its Claimed, Io and Shared
-- marks, where `held` are the Claimed marks that it came with
pub record ExecutesAll (held : List Mark) (p q : Known)
    (reads reads' faults faults' : ℕ) : Type 0 where
  pub more : List Mark
  pub grows : AppendsMarks p q more
  pub claims_completed : ClaimsAreCompleted (held ++ more)
  pub counters_follow : CountersFollowMarks reads reads' faults faults' more
