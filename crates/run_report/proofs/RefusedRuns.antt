-- Runs that listed nothing: they were refused, or there was no memory.
use Rattle.std.proofs.Common.{◌≡◌, ℕ, ◌+◌, ◌<◌, [], length, refl, arith, true, false}
use Rattle.std.specs.Prelude.{Option, Some, None, IfSome, nat_lt, cond}
use Rattle.std.proofs.lemmas.Bool.Decides.{nat_tests}
use Rattle.page_check.specs.Told.{Told, relation_block_count}
use Rattle.aio_disk.specs.Shelf.{Files, shelf_told}
use Rattle.command_line.specs.Command.{Command, command_relations}
use Rattle.run_report.specs.Lengths.{LengthsFailed}
use Rattle.run_report.specs.Outcomes.{is_refused}
use Rattle.run_report.specs.Output.{ObservedState, command_format}
use Rattle.heap_scan.specs.Sums.{no_sums}
use Rattle.heap_scan.specs.declared.sums.PageSums.{PageSums}
use Rattle.run_report.specs.Run.{IsListedRun, IsSourceRun, IsCommandRun, EarlierFit, FitsInOrder}
use Rattle.run_report.specs.Run.{lengths_known, limit_known}
use Rattle.run_report.specs.declared.report.Outcome.{Outcome}
use Rattle.run_report.specs.declared.report.Outcome.TheVariants.{CannotOpen, NoLength}
use Rattle.run_report.specs.declared.report.Outcome.TheVariants.{NoMemory, TooLong}
use Rattle.run_report.proofs.OutputsAppend.{lists_nothing}
use Rattle.run_report.proofs.GeneratedRuns.{ran_generated_without_memory}

-- lengths of which the one at r is the first that is too long
abbrev long_at : ℕ → ℕ → ℕ → ℕ
long_at limit r q = cond (nat_lt q r) 0 (limit + 1)

earlier_short : (limit r : ℕ) → EarlierFit limit (long_at limit r) r
earlier_short limit r q below =
    let e : nat_lt q r ≡ true = grind (arith, nat_tests) in rw e (omega arith)

long_here : (limit r : ℕ) → limit < long_at limit r r
long_here limit r = let e : nat_lt r r ≡ false = grind (arith, nat_tests) in rw e (omega arith)

earlier_known : (told : Option Told) (limit r : ℕ)
    → IfSome told (λ t. EarlierFit limit (relation_block_count t) r)
    → EarlierFit limit (lengths_known told (long_at limit r)) r
earlier_known None limit r fit = earlier_short limit r
earlier_known (Some t) limit r fit = fit

long_known : (told : Option Told) (limit r : ℕ)
    → IfSome told (λ t. limit < relation_block_count t r)
    → limit < lengths_known told (long_at limit r) r
long_known None limit r long = long_here limit r
long_known (Some t) limit r long = long

-- nothing was read: the run was refused, or there was no memory
ran_nothing : (told : Option Told) (relations : ℕ) (command : Command) (s : ObservedState)
    (answered : ℕ → ℕ) (segment : ℕ) (o : Outcome) (sums : PageSums)
    → FitsInOrder (limit_known told segment) (lengths_known told answered) relations o
    → (is_refused o ≡ false → (o ≡ NoMemory) × (sums ≡ no_sums))
    → IsListedRun told segment relations command s s o sums []
unfolding lists_nothing
ran_nothing told relations command s answered segment o sums fits memory = record {
  answered = answered;
  map_page = λ _. [];
  in_order = fits;
  is_output = λ begun.
      (let none = memory begun in rw (none.0, none.1) (record {
        lists = lists_nothing (command_format command) told _ s.written;
        sums_are = λ _. refl;
      }));
  few_reads = λ _. omega arith;
  output_same = λ _. (refl, refl);
}

pub ran_out_of_memory : (told : Option Told) {segment : ℕ} (relations : ℕ) (command : Command) (s : ObservedState)
    → IsListedRun told segment relations command s s NoMemory no_sums []
ran_out_of_memory told relations command s =
    ran_nothing told relations command s (λ _. 0) _ NoMemory no_sums tt (λ _. (refl, refl))

-- no disk was opened
pub ran_without_disk : (told : Option Told) {segment : ℕ} (relations : ℕ) (command : Command) (s : ObservedState)
    (sums : PageSums) → IsListedRun told segment relations command s s CannotOpen sums []
ran_without_disk told relations command s sums =
    ran_nothing told relations command s (λ _. 0) _ CannotOpen sums tt (λ begun. absurd (cc))

-- the lengths could not be had
pub ran_refused : (told : Option Told) (relations : ℕ) (command : Command) (s : ObservedState)
    (segment : ℕ) (o : Outcome) → LengthsFailed told segment relations o
    → IsListedRun told segment relations command s s o no_sums []
ran_refused told relations command s segment (NoLength r) has =
    let limit = limit_known told segment in
    ran_nothing told relations command s (long_at limit r) segment (NoLength r) no_sums
    (has.0, earlier_known told limit r has.1) (λ begun. absurd (cc))
ran_refused told relations command s segment (TooLong r) has =
    let limit = limit_known told segment in
    ran_nothing told relations command s (long_at limit r) segment (TooLong r) no_sums
    (has.0, long_known told limit r has.2, earlier_known told limit r has.1)
    (λ begun. absurd (cc))
ran_refused told relations command s segment NoMemory has =
    ran_out_of_memory told relations command s
ran_refused told relations command s segment _ has = absurd has

unread_by : (files : Option Files) (segment : ℕ) (c : Command) (generated : Option ℕ) (s : ObservedState)
    → IsSourceRun files segment c generated s s NoMemory []
unread_by files segment c None s = record {
  between = s.written;
  sums = no_sums;
  ended = NoMemory;
  listed = ran_out_of_memory (shelf_told files (command_relations c))
      (length (command_relations c)) c s;
  concluded = (refl, refl);
}
unread_by files segment c (Some n) s = ran_generated_without_memory c.settings.damaged n s [] refl

-- words that may be a command could not be read for want of memory
pub ran_unread : (files : Option Files) (segment : ℕ) (command : Option Command) (s : ObservedState)
    → IsCommandRun files segment command s s NoMemory []
ran_unread files segment None s = refl
ran_unread files segment (Some c) s = unread_by files segment c c.generated s
