-- What a run leaves on the error stream.
use Rattle.std.specs.Prelude.{◌≡◌, ◌≤◌, ◌&&◌, ◌++◌, ℕ, List, [], Option, Some, None, Bool, true}
use Rattle.std.specs.Prelude.{false}
use Rattle.aio_disk.specs.Counts.{CountRose}
use Rattle.aio_disk.specs.Shelf.{Files}
use Rattle.aio_disk.specs.Sink.{SinkGrew, SinkGrewByPrefix}
use Rattle.aio_trace.specs.TotalsText.{numbers_line as totals_text}
use Rattle.command_line.specs.Command.{Command}
use Rattle.run_report.specs.Outcomes.{outcome_line, has_totals}
use Rattle.run_report.specs.Output.{ObservedState}
use Rattle.run_report.specs.Run.{IsWarned, HoldsForRun, IsCommandRun}
use Rattle.run_report.specs.declared.report.Line.{Line}
use Rattle.run_report.specs.declared.report.Line.TheVariants.{Whole, Cut, NoMemory as NoRoom}
use Rattle.run_report.specs.declared.report.Numbers.{Numbers}
use Rattle.run_report.specs.declared.report.Outcome.{Outcome}
use Rattle.run_report.specs.declared.report.Outcome.TheVariants.{Invalid, NoLength, Unread}
use Rattle.run_report.specs.declared.report.Outcome.TheVariants.{Missing, TooLong}

-- the words are a command with `--stats`
abbrev pub has_stats : Option Command → Bool
has_stats None = false
has_stats (Some c) = c.stats

-- the line of totals follows that of the outcome
abbrev pub shows_totals : Option Command → Outcome → Bool
shows_totals command outcome = has_totals outcome && has_stats command

-- the line of totals, where it is shown
abbrev pub totals_line : Bool → Numbers → List ℕ
totals_line false n = []
totals_line true n = totals_text n.incarnations n.by_workers n.by_backends

-- what a run with this outcome and these numbers has to say at its end: the line of the outcome,
-- then that of the totals
abbrev pub end_lines : Option Command → Outcome → Numbers → List ℕ
end_lines command outcome numbers =
    outcome_line outcome ++ totals_line (shows_totals command outcome) numbers

-- the text stands there whole, or a begin of it; where there is no text to write, nothing was
-- written
pub record IsToldOnErr (text : List ℕ) (line : Line) (before after : Option (List ℕ))
    (faults_before faults_now : ℕ) : Type 0 where
  pub whole : line ≡ Whole → SinkGrew before after text
  pub cut : line ≡ Cut → SinkGrewByPrefix before after text × CountRose faults_before faults_now
  pub no_memory : line ≡ NoRoom → SinkGrewByPrefix before after text
  pub silent : text ≡ [] → (line ≡ Whole) × (after ≡ before) × (faults_now ≡ faults_before)

-- the error stream of a run: how much reached it of what was told so far, what it holds, where it
-- tells that, and how often a write has failed
pub record ErrorStream : Type 0 where
  pub line : Line
  pub written : Option (List ℕ)
  pub faults : ℕ

abbrev pub error_stream : Line → Option (List ℕ) → ℕ → ErrorStream
error_stream line written faults =
    record { line = line; written = written; faults = faults }

-- this text was told behind whatever was told before; nothing of it where that was cut off
pub record AppendsErrorText (text : List ℕ) (before now : ErrorStream) : Type 0 where
  pub later : before.faults ≤ now.faults
  pub more : (so_far : List ℕ) (begun : Option (List ℕ)) (faults : ℕ)
      → faults ≤ before.faults
      → IsToldOnErr so_far before.line begun before.written faults before.faults
      → IsToldOnErr (so_far ++ text) now.line begun now.written faults now.faults

-- warnings of which this holds were told
pub record AppendsWarnings (Are : List ℕ → Type 0) (before now : ErrorStream) : Type 0 where
  pub warnings : List ℕ
  pub tells : AppendsErrorText warnings before now
  pub warnings_hold : Are warnings

-- what is on the error stream at the end: the warnings of the pages that were listed, and then the
-- lines of the end
pub record IsErrorOutput (files : Option Files) (segment : ℕ) (command : Option Command) (before now
    : ObservedState)
    (outcome : Outcome) (numbers : Numbers) (line : Line) (err_before err_after : Option (List ℕ))
    (faults_before faults_now : ℕ) : Type 0 where
  pub warnings : List ℕ
  pub told : IsToldOnErr (warnings ++ end_lines command outcome numbers) line err_before err_after
      faults_before faults_now
  pub ran : IsCommandRun files segment command before now outcome warnings
  pub warnings_are : HoldsForRun files command
      (λ run. IsWarned run before.written now.written outcome warnings)

-- the line of this outcome has numbers
abbrev pub HasNumbers : Outcome → Type 0
HasNumbers (Invalid r b) = Unit {0}
HasNumbers (NoLength r) = Unit {0}
HasNumbers (Unread r b) = Unit {0}
HasNumbers (Missing r b) = Unit {0}
HasNumbers (TooLong r) = Unit {0}
HasNumbers _ = ⊥
