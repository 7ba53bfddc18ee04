-- What a job source proves of the jobs that it gives, for the lister.
use Rattle.std.proofs.Common.{◌≡◌, List, [], ◌++◌, sym, ap, ◌∙◌, subst, append_assoc}
use Rattle.std.specs.Prelude.{Option, None}
use Rattle.std.proofs.lemmas.List.{map-append}
use Rattle.page_check.specs.Told.{Told}
use Rattle.aio_disk.specs.declared.sink.Sink.{Ghosts as SinkGhosts}
use Rattle.scan_jobs.specs.Jobs.{entries_of_job}
use Rattle.scan_jobs.specs.declared.job.Job.{Job}
use Rattle.heap_scan.specs.Sums.{no_sums}
use Rattle.heap_scan.specs.declared.sums.PageSums.{PageSums}
use Rattle.request_list.specs.RequestList.{Part}
use Rattle.run_report.specs.Output.{WriteFaultsCounted, format_of_options}
use Rattle.run_report.specs.ErrorLine.{ErrorStream, AppendsWarnings, error_stream}
use Rattle.run_report.specs.Sums.{IsSummedOutput}
use Rattle.lister.specs.ListerState.{CutsOffJobs, PreservesListing, lister_error_stream}
use Rattle.lister.specs.ListerState.{unskipped_job_parts, unskipped_parts}
use Rattle.lister.specs.declared.lister.Lister.{Lister}
use Rattle.run_report.specs.declared.report.Line.{Line}
use Rattle.run_report.specs.declared.report.Outcome.{Outcome}
use Rattle.run_report.specs.declared.report.Outcome.TheVariants.{Done}

-- the parts of some jobs and of further ones, before what is left
pub parts_before_rest : (asked later : List Job) (rest : List Part)
    → unskipped_job_parts None (asked ++ later) ++ rest
    ≡ unskipped_job_parts None asked ++ (unskipped_job_parts None later ++ rest)
parts_before_rest asked later rest =
    ap (λ (l : List Part). l ++ rest) (map-append (entries_of_job None) asked later)
    ∙ append_assoc (unskipped_job_parts None asked) (unskipped_job_parts None later) rest

module _ {W O E : Type 0} where
  -- jobs were cut off, and then further ones
  pub cuts_then : (a b c : Lister W O E) (asked later : List Job) → CutsOffJobs a asked b
      → CutsOffJobs b later c → CutsOffJobs a (asked ++ later) c
  cuts_then a b c asked later first second = record {
    loans = (second.loans.0 ∙ first.loans.0, second.loans.1 ∙ first.loans.1);
    out = second.out ∙ first.out;
    err = second.err ∙ first.err;
    line = second.line ∙ first.line;
    options_same = second.options_same ∙ first.options_same;
    filter_same = second.filter_same ∙ first.filter_same;
    outcome = second.outcome ∙ first.outcome;
    sums = second.sums ∙ first.sums;
    cut = first.cut
        ∙ ap (λ (l : List Part). unskipped_job_parts None asked ++ l) second.cut
        ∙ sym (parts_before_rest asked later c.blocks);
  }

module _ {W O E : Type 0} (told : Option Told) (out : SinkGhosts O) (err : SinkGhosts E) where
  abbrev Goes : Lister W O E → Lister W O E → Type 0
  Goes s t = PreservesListing told out err s t

  abbrev errors : Lister W O E → ErrorStream
  errors l = lister_error_stream told out err l

  -- jobs that were given leave the error stream as it was
  pub same_errors : (was : Lister W O E) (asked : List Job) (old : Lister W O E)
      → CutsOffJobs was asked old → errors was ≡ errors old
  same_errors was asked old gives_jobs =
      ap (λ (l : Line). error_stream l (err.written was.err.now) (err.faults was.err.now))
      (sym gives_jobs.line)
      ∙ ap (λ (e : E). error_stream old.line (err.written e) (err.faults e)) (sym gives_jobs.err)

  -- jobs were given, and no block of theirs is to be listed any more
  pub listing_kept : (s t : Lister W O E) (asked : List Job) → CutsOffJobs s asked t
      → (t.outcome ≡ Done → s.blocks ≡ t.blocks) → Goes s t
  listing_kept s t asked gives same = (
    gives.loans.0,
    gives.loans.1,
    λ skips m all before faults_before errors_before so_far.
        (let P : Outcome → PageSums → O → ErrorStream → Type 0 = λ x sums o e.
        AppendsWarnings (IsSummedOutput (format_of_options m) told so_far.asked before
        (out.written o) x no_sums sums) errors_before e in
        let Q : Outcome → Type 0 = λ x. P x s.sums s.out.now (errors s) in
        let R : PageSums → Type 0 = λ sums. P t.outcome sums s.out.now (errors s) in
        let S : O → Type 0 = λ o. P t.outcome t.sums o (errors s) in
        let T : ErrorStream → Type 0 = λ e. P t.outcome t.sums t.out.now e in
        let V : O → Type 0 = λ o. WriteFaultsCounted faults_before (out.faults o) s.outcome in
        let U : Outcome → Type 0 =
        λ x. WriteFaultsCounted faults_before (out.faults t.out.now) x in
        record {
          asked = so_far.asked;
          rest = so_far.rest;
          cut = so_far.cut;
          left = λ done. so_far.left (sym gives.outcome ∙ done)
              ∙ ap (unskipped_parts skips) (same done);
          options_are = gives.options_same ∙ so_far.options_are;
          filter_is = gives.filter_same ∙ so_far.filter_is;
          lists = subst T (same_errors s asked t gives) (subst S (sym gives.out)
              (subst R (sym gives.sums) (subst Q (sym gives.outcome) so_far.lists)));
          writes = subst U (sym gives.outcome) (subst V (sym gives.out) so_far.writes);
        }),
  )

  -- no job was given
  pub none_put : (s t : Lister W O E) → CutsOffJobs s [] t → Goes s t
  none_put s t gives = listing_kept s t [] gives (λ _. gives.cut)
