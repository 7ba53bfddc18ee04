-- What the top call promises over a shelf that tells, from how the run ended.
use Rattle.std.proofs.Common.{◌≡◌, ◌≢◌, ℕ, List, length, refl, true}
use Rattle.std.specs.Prelude.{Option, Some, None, IfSome}
use Rattle.page_check.specs.declared.rules.DamagedPages.{DamagedPages}
use Rattle.page_check.specs.Told.{Told}
use Rattle.aio_disk.specs.Counts.{ShelfCounts}
use Rattle.aio_disk.specs.Shelf.{Files, shelf_told}
use Rattle.command_line.specs.Command.{Command, command_relations}
use Rattle.run_report.specs.Outcomes.{is_refused}
use Rattle.run_report.specs.Output.{ObservedState}
use Rattle.run_report.specs.Run.{SynchronousRun, file_run, generated_run, HoldsForRun}
use Rattle.run_report.specs.Run.{HoldsForSource, IsCommandRun, IsSourceRun}
use Rattle.run_report.specs.Run.{IsFileRun, IsGeneratedRun, IsWarned, RunWrites}
use Rattle.run_report.specs.Causes.{HasCauses, NamesFirstTooLong, IsComplete}
use Rattle.run_report.specs.declared.report.Outcome.{Outcome}
use Rattle.run_report.specs.declared.report.Outcome.TheVariants.{Usage}
use Rattle.run_report.proofs.ExactOutcomes.{exact, complete}
use Rattle.run_report.proofs.ConcludedRuns.{file_writes, file_warned, file_fits, file_untouched}
use Rattle.run_report.proofs.GeneratedRuns.{generated_not_refused}

-- over a shelf that tells, what holds of each run holds of this one
told_by : (told : Option Told) {segment : ℕ} (c : Command) (b a : ObservedState) (o : Outcome) (w : List ℕ)
    (P : SynchronousRun → Type 0)
    → ((t : Told) → IsFileRun (Some t) segment (length (command_relations c)) c b a o w → P (file_run t c))
    → IsFileRun told segment (length (command_relations c)) c b a o w → IfSome told (λ t. P (file_run t c))
told_by None c b a o w P each ran = tt
told_by (Some t) c b a o w P each ran = each t ran

on_source : (files : Option Files) {segment : ℕ} (c : Command) (generated : Option ℕ)
    (b a : ObservedState) (o : Outcome) (w : List ℕ) (P : SynchronousRun → Type 0)
    → ((t : Told) → IsFileRun (Some t) segment (length (command_relations c)) c b a o w → P (file_run t c))
    → ((z : DamagedPages) (n : ℕ) → IsGeneratedRun z n b a o w → P (generated_run z n))
    → IsSourceRun files segment c generated b a o w → HoldsForSource files c generated P
on_source files c None b a o w P each each_made ran =
    told_by (shelf_told files (command_relations c)) c b a o w P each ran
on_source files c (Some n) b a o w P each each_made ran = each_made c.settings.damaged n ran

pub on_told : (files : Option Files) {segment : ℕ} (command : Option Command) (b a : ObservedState) (o : Outcome)
    (w : List ℕ) (P : SynchronousRun → Type 0)
    → ((t : Told) (c : Command) → command ≡ Some c
    → IsFileRun (Some t) segment (length (command_relations c)) c b a o w → P (file_run t c))
    → ((z : DamagedPages) (n : ℕ) → command ≢ None → IsGeneratedRun z n b a o w → P (generated_run z n))
    → IsCommandRun files segment command b a o w → HoldsForRun files command P
on_told files None b a o w P each each_made ran = tt
on_told files (Some c) b a o w P each each_made ran =
    on_source files c c.generated b a o w P (λ t r. each t c refl r)
    (λ z n r. each_made z n (λ none. absurd (cc)) r) ran

-- words that are a command do not end in Usage
not_usage : (command : Option Command) (c : Command) (o : Outcome)
    → (o ≡ Usage → command ≡ None) → command ≡ Some c → o ≢ Usage
not_usage command c o usage some = λ is. (let none = usage is in cc)

module _ (files : Option Files) (segment : ℕ) (command : Option Command) (b a : ObservedState) (o : Outcome)
    (w : List ℕ) (ran : IsCommandRun files segment command b a o w) where
  pub told_writes : HoldsForRun files command (λ run. RunWrites run b.written a.written o)
  told_writes =
      on_told files command b a o w (λ run. RunWrites run b.written a.written o)
      (λ t c some r. file_writes t (length (command_relations c)) c b a o w r)
      (λ z n some r. r.writes) ran

  pub told_warned : HoldsForRun files command (λ run. IsWarned run b.written a.written o w)
  told_warned =
      on_told files command b a o w (λ run. IsWarned run b.written a.written o w)
      (λ t c some r. file_warned t (length (command_relations c)) c b a o w r)
      (λ z n some r. r.warnings_are) ran

  pub told_exact : HoldsForRun files command (λ run. NamesFirstTooLong run o)
  told_exact =
      on_told files command b a o w (λ run. NamesFirstTooLong run o)
      (λ t c some r. exact (file_run t c) o
      (file_fits t (length (command_relations c)) c b a o w r))
      (λ z n some r. exact (generated_run z n) o r.in_order) ran

  pub told_complete : (before now : ShelfCounts) (wb wn : ℕ) → (o ≡ Usage → command ≡ None)
      → HasCauses before now wb wn o
      → HoldsForRun files command (λ run. IsComplete run before now wb wn o)
  told_complete before now wb wn usage causes =
      on_told files command b a o w (λ run. IsComplete run before now wb wn o)
      (λ t c some r.
      complete (file_run t c) before now wb wn b.written a.written o
      (not_usage command c o usage some) causes
      (file_fits t (length (command_relations c)) c b a o w r)
      (file_writes t (length (command_relations c)) c b a o w r))
      (λ z n some r.
      complete (generated_run z n) before now wb wn b.written a.written o
      (λ is. some (usage is)) causes r.in_order r.writes) ran

untouched_by : (files : Option Files) (segment : ℕ) (c : Command) (generated : Option ℕ)
    (b a : ObservedState) (o : Outcome)
    (w : List ℕ) → IsSourceRun files segment c generated b a o w
    → is_refused o ≡ true → a.written ≡ b.written
untouched_by files segment c None b a o w ran refused = file_untouched _ (length (command_relations c)) c b a o w ran refused
untouched_by files segment c (Some n) b a o w ran refused =
    absurd (let begun = generated_not_refused o ran.ends in cc)

pub any_untouched : (files : Option Files) (segment : ℕ) (command : Option Command)
    (b a : ObservedState) (o : Outcome) (w : List ℕ) → (command ≡ None → a.written ≡ b.written)
    → IsCommandRun files segment command b a o w → is_refused o ≡ true → a.written ≡ b.written
any_untouched files segment None b a o w unread ran refused = unread refl
any_untouched files segment (Some c) b a o w unread ran refused =
    untouched_by files segment c c.generated b a o w ran refused
