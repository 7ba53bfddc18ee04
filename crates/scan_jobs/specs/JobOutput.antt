-- What showing an answer of a stream leaves.
use Rattle.std.specs.Prelude.{◌≡◌, ℕ, List, ◌++◌, Option, Some, None}
use Rattle.heap_scan.specs.Warnings.{warning_for}
use Rattle.page_check.specs.PageBytes.{IsPage}
use Rattle.page_check.specs.IsAnswer.{Next as Said, Page, Stop, IfGiven}
use Rattle.heap_scan.specs.Listing.{PageFormat, fault_count_for, text_for}
use Rattle.heap_scan.specs.Sums.{FitSums, sums_with_page}
use Rattle.heap_scan.specs.declared.sums.PageSums.{PageSums}
use Rattle.scan_jobs.specs.Jobs.{job_ending}
use Rattle.scan_jobs.specs.declared.job.Ending.{Ending}
use Rattle.scan_jobs.specs.declared.job.Ending.TheVariants as ending

-- the text, the warnings and the sums of the pages so far
pub record JobOutput : Type 0 where
  pub text : List ℕ
  pub warnings : List ℕ
  pub sums : PageSums

abbrev pub job_output : List ℕ → List ℕ → PageSums → JobOutput
job_output text warnings sums = record { text = text; warnings = warnings; sums = sums }

-- the page that was given can be counted
abbrev pub CanBeCounted : PageFormat → PageSums → Said (Unit {0}) → Type 0
CanBeCounted format sums said = IfGiven said (λ g. IsPage g.page
    → FitSums (sums_with_page (fault_count_for format g) sums g.page))

-- a page's text and its warning, if it was zeroed, behind those before it, and the page in the
-- sums, unless there is no memory; or the ending, with all as it was
abbrev pub AnswerAppended : PageFormat → Said (Unit {0}) → JobOutput → JobOutput → Option Ending
    → Type 0
AnswerAppended format (Page given) before after None =
    (after.text ≡ before.text ++ text_for format given)
    × (after.warnings ≡ before.warnings ++ warning_for given)
    × (after.sums ≡ sums_with_page (fault_count_for format given) before.sums given.page)
AnswerAppended format (Page given) before after (Some e) = (e ≡ ending.NoMemory) × (after ≡ before)
AnswerAppended format (Stop end) before after result = (result ≡ Some (job_ending end))
    × (after ≡ before)
