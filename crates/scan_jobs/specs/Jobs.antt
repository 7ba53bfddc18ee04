-- What a job asks for, and what has become of it.
use Rattle.std.specs.Prelude.{◌≡◌, ◌≢◌, ℕ, ◌+◌, ◌^◌, ◌<◌, ◌≤◌, List, [], length, count_by, sum_by}
use Rattle.std.specs.Prelude.{Option, Some, None, Bool, true, false, slice_index_or, ⊤, cond}
use Rattle.std.specs.Prelude.{◌++◌, ◌∷◌, ◌-◌, map, nat_le, if◌then◌else◌}
use Rattle.page_check.specs.declared.rules.DamagedPages.TheVariants as damaged_pages
use Rattle.page_check.specs.Told.{Told}
use Rattle.page_check.specs.SynchronousAnswer.{Entry, reading_of, Ending as SaidEnding, End}
use Rattle.page_check.specs.SynchronousAnswer.{Invalid as SaidInvalid, PastEnd as SaidPastEnd}
use Rattle.page_check.specs.SynchronousAnswer.{Unread as SaidUnread}
use Rattle.heap_scan.specs.Job.{IsJobAnswer}
use Rattle.heap_scan.specs.Sums.{no_sums}
use Rattle.scan_settings.specs.PageFormats.{page_format}
use Rattle.scan_settings.specs.ListOptions.{ListOptions}
use Rattle.scan_jobs.specs.BlockFilter.{BlockFilter, unskipped_range}
use Rattle.scan_jobs.specs.declared.job.Ending.{Ending}
use Rattle.scan_jobs.specs.declared.job.Ending.TheVariants as ending
use Rattle.scan_jobs.specs.declared.job.Job.{Job}

-- the ending that was answered: none where there was no memory
abbrev pub answered_ending : Ending → Option SaidEnding
answered_ending ending.Pages = Some End
answered_ending (ending.Invalid block) = Some (SaidInvalid block)
answered_ending (ending.Unread block) = Some (SaidUnread block)
answered_ending (ending.PastEnd block) = Some (SaidPastEnd block)
answered_ending ending.NoMemory = None

-- the ending of a job whose blocks were answered so
abbrev pub job_ending : SaidEnding → Ending
job_ending End = ending.Pages
job_ending (SaidInvalid block) = ending.Invalid block
job_ending (SaidUnread block) = ending.Unread block
job_ending (SaidPastEnd block) = ending.PastEnd block

abbrev pub is_unread : Ending → Bool
is_unread (ending.Unread block) = true
is_unread ending.Pages = false
is_unread (ending.Invalid block) = false
is_unread (ending.PastEnd block) = false
is_unread ending.NoMemory = false

-- 1 where an ending is Unread
abbrev pub unread_ending_count : Ending → ℕ
unread_ending_count e = cond (is_unread e) 1 0

-- how many of these jobs ended in Unread
abbrev pub unread_job_count : List Job → ℕ
unread_job_count jobs = count_by (λ j. is_unread j.ending) jobs

-- how many blocks they ask for
abbrev pub job_block_count : List Job → ℕ
job_block_count jobs = sum_by (λ (j : Job). j.count) jobs

-- a job that nobody has worked on
pub record IsNewJob (relations : ℕ) (j : Job) : Type 0 where
  pub relation_in : j.relation < relations
  pub few : (1 ≤ j.count) × (j.count ≤ 64)
  pub within : j.first + j.count ≤ 2 ^ 32
  pub no_text : j.text.items ≡ []
  pub no_warnings : j.warnings.items ≡ []
  pub no_tally : j.tally ≡ no_sums
  pub no_ending : j.ending ≡ ending.Pages

-- the blocks that it asks for, but for those that are left out
abbrev pub entries_of_job : Option BlockFilter → Job → List (Entry (Unit {0}))
entries_of_job block_filter j = unskipped_range block_filter j.relation j.first j.count

-- the blocks that jobs ask for, one job after the other
abbrev pub entries_of_jobs : Option BlockFilter → List Job → List (Entry (Unit {0}))
entries_of_jobs block_filter [] = []
entries_of_jobs block_filter (j ∷ js) =
    entries_of_job block_filter j ++ entries_of_jobs block_filter js

-- no block of these jobs is left out, but for the last job's
abbrev pub AreWholeButLast : Option BlockFilter → List Job → Type 0
AreWholeButLast block_filter [] = ⊤
AreWholeButLast block_filter (j ∷ []) = ⊤
AreWholeButLast block_filter (j ∷ k ∷ js) =
    (length (entries_of_job block_filter j) ≡ j.count) × AreWholeButLast block_filter (k ∷ js)

-- what a job asks for, and how it has ended
pub record JobOutline : Type 0 where
  pub relation : ℕ
  pub first : ℕ
  pub count : ℕ
  pub ending : Ending

abbrev pub job_outline : Job → JobOutline
job_outline j =
    record { relation = j.relation; first = j.first; count = j.count; ending = j.ending }

-- the job with this ending
abbrev pub ended_job : Ending → Job → Job
ended_job end j = record j { ending = end }

-- jobs that have taken so many pages, and ended so: a job that has the pages of all its blocks has
-- ended already, unless it is the last; the next one ends so, and nothing is listed behind it
abbrev pub ended_jobs : List Job → ℕ → Ending → List Job
ended_jobs [] taken end = []
ended_jobs (j ∷ []) taken end = ended_job end j ∷ []
ended_jobs (j ∷ k ∷ js) taken end =
    if nat_le j.count taken then j ∷ ended_jobs (k ∷ js) (taken - j.count) end
    else ended_job end j ∷ map (ended_job ending.NoMemory) (k ∷ js)

-- how many blocks of these jobs are not left out
abbrev pub count_unskipped : Option BlockFilter → List Job → ℕ
count_unskipped block_filter jobs = sum_by (λ j. length (entries_of_job block_filter j)) jobs

-- what has become of a job that is listed with these options, without the blocks that are left out:
-- text, warnings, sums and ending are those of the answers to the others; where damaged pages are
-- not given as zeros, there is no warning
pub record JobIsListed (block_filter : Option BlockFilter) (m : ListOptions) (told : Option Told)
    (may : Entry (Unit {0}) → Type 0) (j k : Job) : Type 0 where
  pub same : (k.relation ≡ j.relation) × (k.first ≡ j.first) × (k.count ≡ j.count)
  pub answer : IsJobAnswer (page_format m.page_text) (reading_of m.rules told) may
      (entries_of_job block_filter j) k.text.items k.warnings.items k.tally (answered_ending
      k.ending)
  pub no_warnings : m.rules.damaged ≢ damaged_pages.Zero → k.warnings.items ≡ []

-- what has become of jobs that were put, whichever block may be unread
pub record AllJobsAnswered (block_filter : Option BlockFilter) (m : ListOptions) (told : Option
    Told)
    (asked answered : List Job) : Type 0 where
  pub as_many : length answered ≡ length asked
  pub each : (i : ℕ) (j : Job) → i < length asked
      → JobIsListed block_filter m told (λ _. ⊤) (slice_index_or asked i j)
      (slice_index_or answered i j)
