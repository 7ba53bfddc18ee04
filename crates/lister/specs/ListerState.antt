-- What the jobs of a run have listed.
use Rattle.std.specs.Prelude.{◌≡◌, ◌≢◌, ◌⊎◌, ℕ, ◌++◌, List, [], ◌∷◌, map, Option, None, ⊤}
use Rattle.std.specs.List.{flat_map}
use Rattle.page_check.specs.Told.{Told}
use Rattle.aio_disk.specs.declared.sink.Sink.{Ghosts as SinkGhosts}
use Rattle.scan_settings.specs.ListOptions.{ListOptions, list_options}
use Rattle.scan_jobs.specs.Jobs.{JobIsListed, AllJobsAnswered, entries_of_job}
use Rattle.scan_jobs.specs.BlockFilter.{BlockFilter, unskipped_entries, filter_of_skipping}
use Rattle.scan_jobs.specs.declared.job.Ending.{Ending as JobEnding}
use Rattle.scan_jobs.specs.declared.job.Ending.TheVariants as ending
use Rattle.scan_jobs.specs.declared.job.Job.{Job}
use Rattle.heap_scan.specs.Sums.{no_sums}
use Rattle.heap_scan.specs.declared.sums.PageSums.{PageSums}
use Rattle.request_list.specs.RequestList.{Request, Part}
use Rattle.run_report.specs.Output.{IsOutput, WriteFaultsCounted, format_of_options}
use Rattle.run_report.specs.ErrorLine.{ErrorStream, AppendsWarnings, error_stream}
use Rattle.run_report.specs.Sums.{IsSummedOutput}
use Rattle.lister.specs.declared.lister.Lister.{Lister}
use Rattle.run_report.specs.declared.report.Outcome.{Outcome}
use Rattle.run_report.specs.declared.report.Outcome.TheVariants.{Done, Invalid, Unread}
use Rattle.run_report.specs.declared.report.Outcome.TheVariants.{NoMemory, Missing}

-- the blocks that jobs ask for, except those that are left out
abbrev pub unskipped_job_requests : Option BlockFilter → List Job → List Request
unskipped_job_requests skips jobs = flat_map (entries_of_job skips) jobs

-- in parts, one for each job
abbrev pub unskipped_job_parts : Option BlockFilter → List Job → List Part
unskipped_job_parts skips jobs = map (entries_of_job skips) jobs

-- parts without the blocks that are left out
abbrev pub unskipped_parts : Option BlockFilter → List Part → List Part
unskipped_parts skips parts = map (unskipped_entries skips) parts

-- the outcome where a job of this relation ended so
abbrev pub outcome_of_ending : ℕ → JobEnding → Outcome
outcome_of_ending r ending.Pages = Done
outcome_of_ending r (ending.Invalid b) = Invalid r b
outcome_of_ending r (ending.Unread b) = Unread r b
outcome_of_ending r (ending.PastEnd b) = Missing r b
outcome_of_ending r ending.NoMemory = NoMemory

-- the text of a job was written: the blocks that it was asked for were listed, with its sums and
-- these warnings
abbrev pub JobTextWritten : Job → Option (List ℕ) → Option (List ℕ) → Outcome → List ℕ → Type 0
JobTextWritten job before now outcome warnings =
    (skips : Option BlockFilter) (m : ListOptions) (told : Option Told) (asked : Job)
    → JobIsListed skips m told (λ _. ⊤) asked job
    → (lists : IsOutput (format_of_options m) told (entries_of_job skips asked ∷ [])
    before now outcome warnings) × (lists.sums ≡ job.tally)

-- and the texts of some jobs, whose sums were added up
abbrev pub AllJobTextsWritten : List Job → Option (List ℕ) → Option (List ℕ)
    → Outcome → PageSums → PageSums → List ℕ → Type 0
AllJobTextsWritten jobs before now outcome sums_before sums_now warnings =
    (skips : Option BlockFilter) (m : ListOptions) (told : Option Told) (asked : List Job)
    → AllJobsAnswered skips m told asked jobs
    → IsSummedOutput (format_of_options m) told (unskipped_job_parts skips asked)
    before now outcome sums_before sums_now warnings

module _ {W O E : Type 0} where
  -- something has ended the run, or no block is left
  abbrev pub ListerIsOver : Lister W O E → Type 0
  ListerIsOver l = (l.outcome ≢ Done) ⊎ (l.blocks ≡ [])

  -- the options by which it lists pages
  abbrev pub lister_options : Lister W O E → ListOptions
  lister_options l = list_options l.rules l.page_text

  -- the blocks that it leaves out
  abbrev pub lister_filter : Lister W O E → Option BlockFilter
  lister_filter l = filter_of_skipping l.by_map

  -- these jobs were cut off, where nothing has ended the run; nothing was written
  pub record CutsOffJobs (s : Lister W O E) (asked : List Job) (t : Lister W O E) : Type 0 where
    pub loans : (t.out.ghost_name ≡ s.out.ghost_name) × (t.err.ghost_name ≡ s.err.ghost_name)
    pub out : t.out.now ≡ s.out.now
    pub err : t.err.now ≡ s.err.now
    pub line : t.line ≡ s.line
    pub options_same : lister_options t ≡ lister_options s
    pub filter_same : lister_filter t ≡ lister_filter s
    pub outcome : t.outcome ≡ s.outcome
    pub sums : t.sums ≡ s.sums
    pub cut : s.blocks ≡ unskipped_job_parts None asked ++ t.blocks

  module _ (told : Option Told) (o : SinkGhosts O) (e : SinkGhosts E) where
    abbrev pub lister_error_stream : Lister W O E → ErrorStream
    lister_error_stream l = error_stream l.line (e.written l.err.now) (e.faults l.err.now)

    -- of these parts the first were listed: all that are not left, where nothing has ended the run
    pub record ListerListedParts (skips : Option BlockFilter) (m : ListOptions) (all : List Part)
        (before : Option (List ℕ)) (faults_before : ℕ) (errors : ErrorStream)
        (l : Lister W O E) : Type 0 where
      pub asked : List Part
      pub rest : List Part
      pub cut : all ≡ asked ++ rest
      pub left : l.outcome ≡ Done → rest ≡ unskipped_parts skips l.blocks
      pub options_are : lister_options l ≡ m
      pub filter_is : lister_filter l ≡ skips
      pub lists : AppendsWarnings (IsSummedOutput (format_of_options m) told asked before
          (o.written l.out.now) l.outcome no_sums l.sums) errors (lister_error_stream l)
      pub writes : WriteFaultsCounted faults_before (o.faults l.out.now) l.outcome

    -- some jobs have led from one state to the other: whatever was listed by the first, with
    -- what they have listed it has been by the second
    abbrev pub PreservesListing : Lister W O E → Lister W O E → Type 0
    PreservesListing s t =
        (t.out.ghost_name ≡ s.out.ghost_name) × (t.err.ghost_name ≡ s.err.ghost_name)
        × ((skips : Option BlockFilter) (m : ListOptions) (all : List Part)
        (before : Option (List ℕ)) (faults_before : ℕ) (errors : ErrorStream)
        → ListerListedParts skips m all before faults_before errors s
        → ListerListedParts skips m all before faults_before errors t)
