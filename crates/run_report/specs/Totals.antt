-- How many I/Os a run made through handles, and who executed them.
use Rattle.std.specs.Prelude.{◌≡◌, ◌≢◌, ℕ, ◌+◌, ◌<◌, ◌≤◌, List, length, drop, sum_by, Option}
use Rattle.std.specs.Prelude.{Some, None, IfSome, true}
use Rattle.std.specs.List.{All}
use Rattle.page_check.specs.Told.{Told}
use Rattle.aio_disk.specs.Counts.{ShelfCounts}
use Rattle.aio_handle.specs.Execution.{last_count}
use Rattle.scan_settings.specs.declared.settings.MethodKind.TheVariants as method
use Rattle.command_line.specs.Command.{Command}
use Rattle.request_list.specs.RemainingRequests.{resolved_request_list}
use Rattle.run_report.specs.Outcomes.{is_refused}
use Rattle.request_list.specs.declared.cutter.ResolvedCommand.{ResolvedCommand}
use Rattle.run_report.specs.declared.report.Outcome.{Outcome}
use Rattle.run_report.specs.declared.report.Numbers.{Numbers}
use Rattle.run_report.specs.declared.report.Report.{Report}
use Rattle.run_report.specs.declared.report.RunEnd.{RunEnd}
use Rattle.run_report.specs.declared.report.Line.TheVariants.{Whole}
use Rattle.heap_scan.specs.Sums.{no_sums}

-- those that are reported
abbrev pub report_numbers : Report → Numbers
report_numbers r = record {
  incarnations = r.incarnations;
  by_workers = r.by_workers;
  by_backends = r.by_backends;
}

abbrev pub no_numbers : Numbers
no_numbers = record { incarnations = 0; by_workers = 0; by_backends = 0 }

-- the end of a run that read no block and told nothing
abbrev pub end_without_reads : Outcome → RunEnd
end_without_reads outcome = record {
  outcome = outcome;
  numbers = no_numbers;
  line = Whole;
  sums = no_sums;
}

-- each was one read of a disk, as far as the count goes; generated pages are read from a shelf of
-- their own, and the counts of the one that was handed in stay
abbrev pub NumbersAreReads : Option ℕ → ShelfCounts → ShelfCounts → ℕ → Type 0
NumbersAreReads None before now incarnations =
    now.reads < last_count → now.reads ≡ before.reads + incarnations
NumbersAreReads (Some n) before now incarnations = now ≡ before

-- how many pages are generated, where no files are listed
abbrev pub generated_page_count : Option Command → Option ℕ
generated_page_count None = None
generated_page_count (Some c) = c.generated

pub record AreRunNumbers (generated : Option ℕ) (command : Option Command)
    (before now : ShelfCounts) (outcome : Outcome) (numbers : Numbers) : Type 0 where
  -- each was executed once, by a worker or by a backend
  pub sum : numbers.incarnations ≡ numbers.by_workers + numbers.by_backends
  pub reads : NumbersAreReads generated before now numbers.incarnations
  pub no_workers : IfSome command
      (λ c. c.settings.method ≢ method.Worker → numbers.by_workers ≡ 0)
  pub none : is_refused outcome ≡ true
      → (numbers.incarnations ≡ 0) × (numbers.by_workers ≡ 0) × (numbers.by_backends ≡ 0)

-- the numbers of a scan whose map has given these pages, over disks that were not read before,
-- which have counted so many reads by now
pub record AreScanNumbers {D : Type 0} (asked : ResolvedCommand) (told : Option Told) (given : ℕ
    → List ℕ) (reads : D → ℕ) (disks : List D) (numbers : Numbers) : Type 0 where
  pub sum : numbers.incarnations ≡ numbers.by_workers + numbers.by_backends
  pub reads_are : All (λ d. reads d < last_count) disks
      → numbers.incarnations ≡ sum_by reads disks
  -- those of the workers' disks, which are behind those of the backends
  pub by_workers_are : All (λ d. reads d < last_count) disks → numbers.by_workers
      ≡ sum_by reads (drop ((asked.command.now).settings.backends) disks)
  pub few : numbers.incarnations ≤ length (resolved_request_list asked told given)
  pub no_workers : (asked.command.now).settings.method ≢ method.Worker → numbers.by_workers ≡ 0
