-- The sums over the pages of a run, as its jobs have added them up.
use Rattle.std.specs.Prelude.{◌≡◌, ℕ, ◌-◌, ◌^◌, List, min, Option, None}
use Rattle.page_check.specs.Told.{Told}
use Rattle.heap_scan.specs.Sums.{sums_joined}
use Rattle.heap_scan.specs.declared.sums.PageSums.{PageSums}
use Rattle.command_line.specs.Command.{Command}
use Rattle.run_report.specs.Output.{IsOutput, ListFormat, command_format}
use Rattle.request_list.specs.RequestList.{Part}
use Rattle.run_report.specs.declared.report.Outcome.{Outcome}

-- a count of 64 bits: it stays at the last one
abbrev pub saturated_count : ℕ → ℕ
saturated_count n = min n (2 ^ 64 - 1)

abbrev pub saturated_sums : PageSums → PageSums
saturated_sums sums = record {
  pages = saturated_count sums.pages;
  zero = saturated_count sums.zero;
  items = saturated_count sums.items;
  faults = saturated_count sums.faults;
}

-- these sums, whatever was added up before, grew by those of some pages
abbrev pub SumsGrew : PageSums → PageSums → PageSums → Type 0
SumsGrew before now added =
    (total : PageSums) → before ≡ saturated_sums total
    → now ≡ saturated_sums (sums_joined total added)

-- some parts were listed, and the sums grew by those of their pages
pub record IsSummedOutput (m : ListFormat) (told : Option Told) (parts : List Part)
    (before now : Option (List ℕ)) (outcome : Outcome) (sums_before sums_now : PageSums)
    (warnings : List ℕ) : Type 0 where
  pub lists : IsOutput m told parts before now outcome warnings
  pub sums_grew : SumsGrew sums_before sums_now lists.sums

-- what a command asks for was listed, and these are the sums of the pages; those of a map are not
-- in the sums
pub record HasListed (command : Command) (told : Option Told) (parts : List Part)
    (before now : Option (List ℕ)) (outcome : Outcome) (sums : PageSums) (warnings : List ℕ)
    : Type 0 where
  pub lists : IsOutput (command_format command) told parts before now outcome warnings
  pub sums_are : command.map ≡ None → sums ≡ saturated_sums lists.sums
