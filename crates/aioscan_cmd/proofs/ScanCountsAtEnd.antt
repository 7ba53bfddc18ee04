-- What a scan has counted at its end, and what its disks add to a shelf.
use Rattle.std.proofs.Common.{◌≡◌, ◌≢◌, ◌≤◌, ◌<◌, ◌+◌, ◌⊎◌, [], ℕ, List, length, sum_by, refl}
use Rattle.std.proofs.Common.{sym, ap, ◌∙◌, subst, arith, inl, inr, ⊎_elim, true, false}
use Rattle.std.specs.Prelude.{Option, Some, None, IfSome}
use Rattle.std.specs.List.{All}
use Rattle.std.proofs.lemmas.Bool.{cases_lt}
use Rattle.std.proofs.lemmas.List.Elements.{All-weaker}
use Rattle.std.proofs.lemmas.List.Sums.{get_or-le-sum_by}
use Rattle.page_check.specs.Told.{Told}
use Rattle.aio_disk.specs.Counts.{RisesIfPositive, CountRose, ShelfCounts, count_plus}
use Rattle.aio_handle.specs.Execution.{last_count}
use Rattle.scan_settings.specs.Settings.{workers_of_method, workers_of_settings}
use Rattle.scan_settings.specs.declared.settings.MethodKind.{MethodKind}
use Rattle.scan_settings.specs.declared.settings.MethodKind.TheVariants as method
use Rattle.scan_settings.specs.declared.settings.ScanSettings.{ScanSettings}
use Rattle.command_line.specs.Command.{Command, command_relations}
use Rattle.request_list.specs.RemainingRequests.{resolved_request_list, resolved_request_parts}
use Rattle.aio_disk.specs.declared.disk.Disk.{Ghosts as DiskGhosts}
use Rattle.scan_jobs.proofs.Sums.{sum-none}
use Rattle.aioscan_cmd.specs.Disks.{IsUnreadDisk}
use Rattle.run_report.specs.Lengths.{HasAllLengths}
use Rattle.run_report.specs.Outcomes.{is_refused}
use Rattle.run_report.specs.Output.{WriteFaultsCounted, observed_state, command_format}
use Rattle.heap_scan.specs.Sums.{no_sums}
use Rattle.heap_scan.specs.declared.sums.PageSums.{PageSums}
use Rattle.run_report.specs.Run.{IsListedRun}
use Rattle.run_report.specs.Causes.{ScanHasOutcome, HasCauses, CallsInOrder}
use Rattle.run_report.specs.Totals.{AreRunNumbers, NumbersAreReads, AreScanNumbers, no_numbers}
use Rattle.request_list.specs.declared.cutter.ResolvedCommand.{ResolvedCommand}
use Rattle.run_report.specs.declared.report.Numbers.{Numbers}
use Rattle.run_report.specs.declared.report.Outcome.{Outcome}
use Rattle.run_report.specs.declared.report.Outcome.TheVariants.{Usage, CannotOpen}
use Rattle.run_report.specs.declared.report.Outcome.TheVariants.{NoMemory}
use Rattle.run_report.proofs.ListedRuns.{listing_not_refused, ran_listed, ran_on_shelf}
use Rattle.run_report.proofs.RefusedRuns.{ran_without_disk}
use Rattle.aioscan_cmd.proofs.DiskCountsAdd.{none_behind}
use Rattle.run_report.proofs.OutputsAppend.{lists_nothing}

-- each is at most the sum
each_below : {D : Type 0} (f : D → ℕ) (most : ℕ) (ds : List D) → sum_by f ds < most
    → All (λ d. f d < most) ds
each_below f most ds below = λ k d inside.
    (let one = get_or-le-sum_by f ds k d inside in omega arith)

module _ {D : Type 0} (m : DiskGhosts D) (told : Option Told) (relations segment : ℕ) (ds : List D)
    (all : All (IsUnreadDisk m told relations segment) ds) where
  pub no_reads : sum_by m.reads ds ≡ 0
  no_reads =
      sum-none m.reads ds (All-weaker (IsUnreadDisk m told relations segment) (λ d. m.reads d ≡ 0)
      (λ d is. is.no_reads) ds all)

  pub no_faults : sum_by m.faults ds ≡ 0
  no_faults =
      sum-none m.faults ds (All-weaker (IsUnreadDisk m told relations segment) (λ d. m.faults d ≡ 0)
      (λ d is. is.no_faults) ds all)

-- a job that ended in Unread has left a fault
pub some_fault : {D : Type 0} (f : D → ℕ) (ds : List D) (opened unread : ℕ)
    → (All (λ d. f d < last_count) ds → unread + opened ≤ sum_by f ds) → 0 < unread
    → 0 < sum_by f ds
some_fault f ds opened unread each some = elim (cases_lt 0 (sum_by f ds)) [
  | inl more ↦ more
  | inr none ↦ absurd (
      let below : sum_by f ds < last_count = omega arith in
      let rose = each (each_below f last_count ds below) in omega arith)
]

-- a scan that was not opened has read nothing
pub nothing_counted : {D : Type 0} (asked : ResolvedCommand) (told : Option Told) (given : ℕ
    → List ℕ) (reads : D → ℕ) (ds : List D) → sum_by reads ds ≡ 0
    → AreScanNumbers asked told given reads ds no_numbers
nothing_counted asked told given reads ds none = record {
  sum = refl;
  reads_are = λ _. sym none;
  by_workers_are = λ _. sym (none_behind reads _ ds none);
  few = omega arith;
  no_workers = λ _. refl;
}

refused_not : (o : Outcome) → is_refused o ≡ false → is_refused o ≡ true → ⊥
refused_not o not is = absurd (cc)

is_refusal : (o : Outcome) → (o ≡ CannotOpen) ⊎ (o ≢ CannotOpen)
is_refusal CannotOpen = inl refl
is_refusal _ = inr (λ e. cc)

module _ (asked : ResolvedCommand) (given : ℕ → List ℕ) (told : Option Told)
    (written now_written : Option (List ℕ)) (before opened : ShelfCounts) (faults reads : ℕ)
    (o : Outcome) (sums : PageSums) (w : List ℕ)
    (scanned : ScanHasOutcome asked given told written now_written before opened faults reads o sums
    w)
  where
    -- a disk could not be opened is the one refusal
    only_refusal : is_refused o ≡ true → o ≡ CannotOpen
    only_refusal is = ⊎_elim (λ e. e)
        (λ not. absurd (refused_not o (listing_not_refused o (scanned.lists not).lists.ends_listing)
        is)) (is_refusal o)

    module _ (now : ShelfCounts) (opens : now.open_faults ≡ opened.open_faults) (lengths : ℕ)
        (length_rise : RisesIfPositive lengths opened.length_faults now.length_faults)
        (fault_rise : RisesIfPositive faults opened.faults now.faults)
        (read_rise : now.reads ≡ count_plus reads opened.reads) where
      pub reads_raised : now.reads ≡ count_plus reads before.reads
      reads_raised = read_rise ∙ ap (count_plus reads) scanned.others.2

      pub ended_in_order : CallsInOrder before now o
      ended_in_order = record {
        usage = λ is. absurd (
            let P : Outcome → Type 0 = λ x. is_refused x ≡ true in
            let refusal = only_refusal (subst P (sym is) refl) in cc);
        refused = λ is.
            (let none = scanned.cannot_open (only_refusal is) in (
              fault_rise.unchanged none.2 ∙ scanned.others.1,
              omega (arith, reads_raised, none.3),
            ));
      }

      pub ended_by_causes : (fb fn : ℕ) → WriteFaultsCounted fb fn o → HasCauses before now fb fn o
      ended_by_causes fb fn writes =
          let later = length_rise.later in
          let late = fault_rise.later in record {
            counts_not_reduced = record {
              open_faults = omega (arith, opens, scanned.opens);
              length_faults = omega (arith, scanned.others.0);
              faults = omega (arith, scanned.others.1);
              reads = omega (arith, reads_raised);
            };
            write_faults_not_reduced = writes.later;
            cannot_open = λ is.
                (let rose = (scanned.cannot_open is).0 in omega (arith, opens));
            no_length = λ r is. absurd (
                let P : Outcome → Type 0 = λ x. is_refused x ≡ true in
                let refusal = only_refusal (subst P (sym is) refl) in cc);
            unread = λ r b is.
                (let rose = fault_rise.risen (scanned.unread r b is) in
                omega (arith, scanned.others.1));
            cannot_write = writes.cannot_write;
          }

      pub ended_not_usage : o ≢ Usage
      ended_not_usage = λ is.
          (let P : Outcome → Type 0 = λ x. is_refused x ≡ true in
          let refusal = only_refusal (subst P (sym is) refl) in cc)

      module _ {D : Type 0} (each_reads : D → ℕ) (ds : List D) (n : Numbers)
          (counted : AreScanNumbers asked told given each_reads ds n)
          (sum_is : reads ≡ sum_by each_reads ds) where
        below_last : reads < last_count → n.incarnations ≡ reads
        below_last below =
            counted.reads_are (each_below each_reads last_count ds (omega (arith, sum_is)))
            ∙ sym sum_is

        pub ended_counted : AreRunNumbers None (Some asked.command.now) before now o n
        ended_counted = record {
          sum = counted.sum;
          reads = λ below.
              (let same = below_last (omega (arith, reads_raised)) in
              omega (arith, reads_raised, same));
          no_workers = counted.no_workers;
          none = λ is.
              (let none = scanned.cannot_open (only_refusal is) in
              let same = below_last (omega (arith, none.3)) in (
                omega (arith, same, none.3),
                omega (arith, same, none.3, counted.sum),
                omega (arith, same, none.3, counted.sum),
              ));
        }

        few_read : reads < last_count → reads ≤ length (resolved_request_list asked told given)
        few_read below = omega (arith, below_last below, counted.few)

        pub ended_ran : (disk_told : Option Told) (segment relations : ℕ) → told ≡ disk_told
            → relations ≡ length (command_relations asked.command.now)
            → HasAllLengths disk_told segment relations asked.lengths.now
            → IsListedRun disk_told segment relations asked.command.now
            (observed_state written before.reads) (observed_state now_written now.reads) o sums w
        ended_ran disk_told segment relations same all has =
            ⊎_elim
            (λ is. (let none = scanned.cannot_open is in
            let unread : now.reads ≡ before.reads = omega (arith, reads_raised, none.3) in
            rw (is, none.4, none.1, unread) (ran_without_disk disk_told relations asked.command.now
            (observed_state written before.reads) sums)))
            (λ not. ran_on_shelf disk_told disk_told relations relations asked.command.now written
            now_written reads before.reads now.reads o sums w refl refl reads_raised
            (ran_listed disk_told told segment relations asked.command.now asked.lengths.now
            given written now_written reads o sums w same all has (scanned.lists not) few_read))
            (is_refusal o)

-- the numbers of a scan that was finished
no_workers_by : (kind : MethodKind) (workers : ℕ) → kind ≢ method.Worker
    → workers_of_method kind workers ≡ 0
no_workers_by method.Sync workers none = refl
no_workers_by method.Worker workers none = absurd (none refl)
no_workers_by method.Ring workers none = refl

pub none_by_workers : (s t : ScanSettings) (runners by_runners by_workers : ℕ) → s ≡ t
    → runners ≡ workers_of_settings s → (runners ≡ 0 → by_runners ≡ 0) → by_workers ≡ by_runners
    → t.method ≢ method.Worker → by_workers ≡ 0
none_by_workers s t runners by_runners by_workers same are none is kind =
    is ∙ none (are ∙ ap workers_of_settings same ∙ no_workers_by t.method t.workers kind)

-- there was no memory for a scan or for a disk
pub scanned_nothing : (asked : ResolvedCommand) (given : ℕ → List ℕ) (told : Option Told)
    (s : Option (List ℕ)) (before now : ShelfCounts) (faults reads : ℕ)
    → before.open_faults ≤ now.open_faults
    → (now.length_faults ≡ before.length_faults) × (now.faults ≡ before.faults)
    × (now.reads ≡ before.reads)
    → ScanHasOutcome asked given told s s before now faults reads NoMemory no_sums []
unfolding lists_nothing
scanned_nothing asked given told s before now faults reads opens others = record {
  opens = opens;
  others = others;
  lists = λ _. record {
    lists = lists_nothing (command_format asked.command.now) told
        (resolved_request_parts asked told given) s;
    sums_are = λ _. refl;
  };
  cannot_open = λ refused. absurd (cc);
  unread = λ r b unread. absurd (cc);
}

-- a disk could not be opened
pub scan_refused : (asked : ResolvedCommand) (given : ℕ
    → List ℕ) (told : Option Told) (s : Option (List ℕ))
    (before now : ShelfCounts) (faults reads : ℕ)
    → (now.length_faults ≡ before.length_faults) × (now.faults ≡ before.faults)
    × (now.reads ≡ before.reads)
    → CountRose before.open_faults now.open_faults → faults ≡ 0 → reads ≡ 0
    → ScanHasOutcome asked given told s s before now faults reads CannotOpen no_sums []
scan_refused asked given told s before now faults reads others rose no_faults no_reads = record {
  opens = omega arith;
  others = others;
  lists = λ not. absurd (not refl);
  cannot_open = λ _. (rose, refl, no_faults, no_reads, refl);
  unread = λ r b unread. absurd (cc);
}

-- what a shelf has counted before the scan
pub scanned_behind : (asked : ResolvedCommand) (given : ℕ → List ℕ) (told : Option Told)
    (written now_written : Option (List ℕ)) (first before now : ShelfCounts) (faults reads : ℕ)
    (o : Outcome) (sums : PageSums) (w : List ℕ) → first.open_faults ≤ before.open_faults
    → before.length_faults ≡ first.length_faults → before.faults ≡ first.faults
    → before.reads ≡ first.reads
    → ScanHasOutcome asked given told written now_written before now faults reads o sums w
    → ScanHasOutcome asked given told written now_written first now faults reads o sums w
scanned_behind asked given told written now_written first before now faults reads o sums w opens
    lengths read_faults read scanned = record {
      opens = omega (arith, scanned.opens);
      others = (
        scanned.others.0 ∙ lengths,
        scanned.others.1 ∙ read_faults,
        scanned.others.2 ∙ read,
      );
      lists = scanned.lists;
      cannot_open = λ is. (let rose = scanned.cannot_open is in (omega (arith, rose.0), rose.1, rose.2, rose.3, rose.4));
      unread = scanned.unread;
    }

no_workers_in : (command : Option Command)
    → IfSome command (λ c. c.settings.method ≢ method.Worker → no_numbers.by_workers ≡ 0)
no_workers_in None = tt
no_workers_in (Some c) = λ _. refl

no_reads_counted : (generated : Option ℕ) (s : ShelfCounts) → NumbersAreReads generated s s 0
no_reads_counted None s = λ _. omega arith
no_reads_counted (Some n) s = refl

-- nothing was done
pub uncounted : (generated : Option ℕ) (command : Option Command) (s : ShelfCounts) (o : Outcome)
    → AreRunNumbers generated command s s o no_numbers
uncounted generated command s o = record {
  sum = refl;
  reads = no_reads_counted generated s;
  no_workers = no_workers_in command;
  none = λ _. (refl, refl, refl);
}
