-- Why a run ended as it did, and in which order it calls the outside, seen by what it counts.
use Rattle.std.specs.Prelude.{◌≡◌, ◌≢◌, ◌⊎◌, ℕ, ◌<◌, ◌≤◌, List, [], Option, true}
use Rattle.page_check.specs.Told.{Told}
use Rattle.aio_disk.specs.Counts.{CountRose, ShelfCounts}
use Rattle.request_list.specs.RemainingRequests.{resolved_request_parts}
use Rattle.run_report.specs.Outcomes.{is_refused}
use Rattle.run_report.specs.Sums.{HasListed}
use Rattle.heap_scan.specs.declared.sums.PageSums.{PageSums}
use Rattle.run_report.specs.Run.{SynchronousRun, EarlierFit}
use Rattle.request_list.specs.declared.cutter.ResolvedCommand.{ResolvedCommand}
use Rattle.run_report.specs.declared.report.Outcome.{Outcome}
use Rattle.run_report.specs.declared.report.Outcome.TheVariants.{Usage, CannotOpen, NoLength}
use Rattle.run_report.specs.declared.report.Outcome.TheVariants.{Unread, CannotWrite, NoMemory}
use Rattle.run_report.specs.declared.report.Outcome.TheVariants.{TooLong}

-- no count fell
pub record CountsNotReduced (before now : ShelfCounts) : Type 0 where
  pub open_faults : before.open_faults ≤ now.open_faults
  pub length_faults : before.length_faults ≤ now.length_faults
  pub faults : before.faults ≤ now.faults
  pub reads : before.reads ≤ now.reads

-- each fault of the outside is named only where its own count rose
pub record HasCauses (before now : ShelfCounts) (write_faults_before write_faults_now : ℕ)
    (outcome : Outcome) : Type 0 where
  pub counts_not_reduced : CountsNotReduced before now
  pub write_faults_not_reduced : write_faults_before ≤ write_faults_now
  pub cannot_open : outcome ≡ CannotOpen → CountRose before.open_faults now.open_faults
  pub no_length : (r : ℕ) → outcome ≡ NoLength r → CountRose before.length_faults now.length_faults
  pub unread : (r b : ℕ) → outcome ≡ Unread r b → CountRose before.faults now.faults
  pub cannot_write : outcome ≡ CannotWrite → CountRose write_faults_before write_faults_now

-- how a scan ended whose map has given these pages, and whose disks have counted so many faults and
-- reads: a disk that could not be opened is the only refusal
pub record ScanHasOutcome (asked : ResolvedCommand) (given : ℕ → List ℕ) (told : Option Told)
    (written now_written : Option (List ℕ)) (before now : ShelfCounts) (faults reads : ℕ)
    (outcome : Outcome) (sums : PageSums) (warnings : List ℕ) : Type 0 where
  pub opens : before.open_faults ≤ now.open_faults
  pub others : (now.length_faults ≡ before.length_faults) × (now.faults ≡ before.faults)
      × (now.reads ≡ before.reads)
  pub lists : outcome ≢ CannotOpen → HasListed asked.command.now told
      (resolved_request_parts asked told given) written now_written outcome sums warnings
  pub cannot_open : outcome ≡ CannotOpen → CountRose before.open_faults now.open_faults
      × (now_written ≡ written) × (faults ≡ 0) × (reads ≡ 0) × (warnings ≡ [])
  pub unread : (r b : ℕ) → outcome ≡ Unread r b → 0 < faults

-- the words are read first; blocks are read only once each length was had and all disks were
-- opened, of which the first alone takes lengths
pub record CallsInOrder (before now : ShelfCounts) (outcome : Outcome) : Type 0 where
  pub usage : outcome ≡ Usage → now ≡ before
  pub refused : is_refused outcome ≡ true
      → (now.faults ≡ before.faults) × (now.reads ≡ before.reads)

-- the first relation that is too long is named, unless one of these came first
abbrev pub NamesFirstTooLong : SynchronousRun → Outcome → Type 0
NamesFirstTooLong run outcome =
    (r : ℕ) → r < run.relations → run.limit < run.lengths r → EarlierFit run.limit run.lengths r
    → outcome ≢ Usage → outcome ≢ CannotOpen → ((q : ℕ) → outcome ≢ NoLength q)
    → outcome ≢ NoMemory → outcome ≡ TooLong r

-- where no count of faults rose and no relation is too long, the outcome is that of synchronous
-- reads, or want of memory
abbrev pub IsComplete : SynchronousRun → ShelfCounts → ShelfCounts → ℕ → ℕ → Outcome → Type 0
IsComplete run before now write_faults_before write_faults_now outcome =
    ¬ CountRose before.open_faults now.open_faults
    → ¬ CountRose before.length_faults now.length_faults
    → ¬ CountRose before.faults now.faults → ¬ CountRose write_faults_before write_faults_now
    → EarlierFit run.limit run.lengths run.relations
    → (outcome ≡ run.outcome) ⊎ (outcome ≡ NoMemory)

-- a disk was opened: the outcome is none of those that come before
abbrev pub DisksWereOpened : Outcome → Type 0
DisksWereOpened outcome = (outcome ≢ Usage) × (outcome ≢ CannotOpen) × (outcome ≢ NoMemory)
