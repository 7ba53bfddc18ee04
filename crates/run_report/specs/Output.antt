-- What a run has listed of a list of blocks, whether or not the contents are told.
use Rattle.std.specs.Prelude.{◌≡◌, ◌≢◌, ◌⊎◌, ◌<◌, ◌≤◌, ◌++◌, ℕ, List, [], length, take, drop}
use Rattle.std.specs.Prelude.{Option, slice_get, slice_index_or, Some, ⊤, true, false}
use Rattle.page_check.specs.SynchronousAnswer.{reading_of}
use Rattle.page_check.specs.Told.{Told}
use Rattle.page_check.specs.declared.rules.PageRules.{PageRules}
use Rattle.page_check.specs.declared.rules.DamagedPages.TheVariants as damaged_pages
use Rattle.heap_scan.specs.Job.{IsJobAnswer}
use Rattle.heap_scan.specs.Listing.{PageFormat, listing}
use Rattle.heap_scan.specs.Warnings.{warnings_of}
use Rattle.heap_scan.specs.declared.sums.PageSums.{PageSums}
use Rattle.scan_settings.specs.ListOptions.{ListOptions}
use Rattle.scan_settings.specs.PageFormats.{page_format}
use Rattle.scan_settings.specs.Settings.{page_rules}
use Rattle.aio_disk.specs.Counts.{CountRose}
use Rattle.aio_disk.specs.Sink.{SinkGrew, SinkGrewByPrefix}
use Rattle.command_line.specs.Command.{Command}
use Rattle.request_list.specs.RequestList.{Request, Part, Page, blocks_of_parts, without_map_pages}
use Rattle.run_report.specs.Outcomes.{can_end_listing, is_output_cut_off, named_block, outcome_ending}
use Rattle.run_report.specs.declared.report.Outcome.{Outcome}
use Rattle.run_report.specs.declared.report.Outcome.TheVariants.{CannotWrite, NoMemory}

-- the format of a listing: how pages are read, and how each is listed
pub record ListFormat : Type 0 where
  pub rules : PageRules
  pub page_format : PageFormat

abbrev pub format_of_options : ListOptions → ListFormat
format_of_options m = record { rules = m.rules; page_format = page_format m.page_text }

-- that of a command
abbrev pub command_format : Command → ListFormat
command_format command = record {
  rules = page_rules command.settings;
  page_format = without_map_pages command.map (page_format command.settings.page_text);
}

-- the state that is observed: the output, where it is told, and how often the disk was read
pub record ObservedState : Type 0 where
  pub written : Option (List ℕ)
  pub reads : ℕ

abbrev pub observed_state : Option (List ℕ) → ℕ → ObservedState
observed_state output count = record { written = output; reads = count }

-- the output grew by this text; by a begin of it where a write failed or there was no memory
abbrev pub OutputGrew : Outcome → Option (List ℕ) → Option (List ℕ) → List ℕ → Type 0
OutputGrew CannotWrite before after text = SinkGrewByPrefix before after text
OutputGrew NoMemory before after text = SinkGrewByPrefix before after text
OutputGrew _ before after text = SinkGrew before after text

-- of these pages those of the part behind the first so many
abbrev pub pages_of_part : List Part → ℕ → List Page → List Page
pages_of_part parts n pages =
    take (length (slice_index_or parts n []))
    (drop (length (blocks_of_parts (take n parts))) pages)

-- A write was cut: the first n parts were written whole, which have so many pages, and of the text
-- of the next, which is not empty, a begin.
pub record IsCutInPart (format : PageFormat) (parts : List Part) (pages : List Page)
    (before now : Option (List ℕ)) (whole : ℕ) : Type 0 where
  pub n : ℕ
  pub inside : n < length parts
  pub whole_is : whole ≡ length (blocks_of_parts (take n parts))
  pub some : listing format (pages_of_part parts n pages) ≢ []
  pub begun : ℕ
  pub output_grew : SinkGrew before now
      (listing format (take whole pages)
      ++ take begun (listing format (pages_of_part parts n pages)))

-- The output stopped behind the whole texts of so many pages: at a write that was cut, or, where
-- there was no memory to list a page, right behind them.
abbrev pub StoppedBehind : PageFormat → List Part → List Page → Option (List ℕ) → Option (List ℕ)
    → Outcome → ℕ → Type 0
StoppedBehind format parts pages before now outcome whole =
    IsCutInPart format parts pages before now whole
    ⊎ ((outcome ≡ NoMemory) × SinkGrew before now (listing format (take whole pages)))

-- pages that answer the blocks of these parts, with this outcome, were listed in this format; these
-- are the warnings of those whose text was written whole
pub record IsOutput (m : ListFormat) (told : Option Told) (parts : List Part)
    (before now : Option (List ℕ)) (outcome : Outcome) (warnings : List ℕ) : Type 0 where
  pub ends_listing : can_end_listing outcome ≡ true
  pub text : List ℕ
  pub all_warnings : List ℕ
  pub sums : PageSums
  pub answer : IsJobAnswer m.page_format (reading_of m.rules told) (λ _. ⊤) (blocks_of_parts parts) text
      all_warnings sums (outcome_ending outcome)
  pub named_block_is : (e : Request) → named_block outcome ≡ Some e
      → slice_get (blocks_of_parts parts) (length answer.pages) ≡ Some e
  pub output_grew : OutputGrew outcome before now text
  -- the text of so many pages was written whole: of all, unless a write failed or there was no
  -- memory
  pub whole : ℕ
  pub pages_within : whole ≤ length answer.pages
  pub all : is_output_cut_off outcome ≡ false → whole ≡ length answer.pages
  pub stopped_behind : is_output_cut_off outcome ≡ true
      → StoppedBehind m.page_format parts answer.pages before now outcome whole
  pub warnings_are : warnings ≡ warnings_of (take whole answer.pages)
  pub no_warnings : m.rules.damaged ≢ damaged_pages.Zero → warnings ≡ []

-- what a run's writes have counted: no fault was forgotten, and one is named only where it rose
pub record WriteFaultsCounted (faults_before faults_now : ℕ) (outcome : Outcome) : Type 0 where
  pub later : faults_before ≤ faults_now
  pub cannot_write : outcome ≡ CannotWrite → CountRose faults_before faults_now
