-- Jobs that have listed what was asked for.
use Rattle.std.proofs.Common.{◌≡◌, ◌≢◌, ℕ, List, [], ◌++◌, refl, sym, ap, ◌∙◌, subst, arith}
use Rattle.std.proofs.Common.{append_assoc, append-nil, inl, inr, ◌⊎◌, ⊎_elim}
use Rattle.std.specs.Prelude.{Option, None}
use Rattle.page_check.specs.Told.{Told}
use Rattle.aio_disk.specs.declared.sink.Sink.{Ghosts as SinkGhosts}
use Rattle.scan_settings.specs.ListOptions.{ListOptions}
use Rattle.scan_jobs.specs.Jobs.{AllJobsAnswered}
use Rattle.scan_jobs.specs.BlockFilter.{BlockFilter}
use Rattle.scan_jobs.specs.declared.job.Job.{Job}
use Rattle.request_list.specs.RequestList.{Part}
use Rattle.run_report.specs.Output.{WriteFaultsCounted, format_of_options}
use Rattle.lister.specs.ListerState.{AllJobTextsWritten, ListerIsOver}
use Rattle.lister.specs.ListerState.{unskipped_job_parts, unskipped_parts}
use Rattle.lister.specs.ListerState.{CutsOffJobs, ListerListedParts, PreservesListing}
use Rattle.lister.specs.ListerState.{lister_error_stream, lister_options, lister_filter}
use Rattle.lister.specs.ListerLaws.{parts_before_rest, same_errors}
use Rattle.run_report.specs.ErrorLine.{ErrorStream, AppendsWarnings}
use Rattle.lister.specs.declared.lister.Lister.{Lister}
use Rattle.run_report.specs.declared.report.Outcome.{Outcome}
use Rattle.run_report.specs.declared.report.Outcome.TheVariants.{Done}
use Rattle.heap_scan.specs.Sums.{no_sums}
use Rattle.heap_scan.specs.declared.sums.PageSums.{PageSums}
use Rattle.run_report.specs.Sums.{IsSummedOutput}
use Rattle.lister.proofs.JobSumsAdd.{summed_append, summed_more, summed_none}
use Rattle.lister.proofs.UnskippedBlocksAppend.{unskipped_after_cut}
use Rattle.run_report.proofs.OutputsAppend.{written_then}
use Rattle.run_report.proofs.ErrorTextsAppend.{warns_also, warns_none, warns_then}

is_done : (o : Outcome) → (o ≡ Done) ⊎ (o ≢ Done)
is_done Done = inl refl
is_done _ = inr (λ e. cc)

nothing_written : (faults : ℕ) (o : Outcome) → o ≡ Done → WriteFaultsCounted faults faults o
nothing_written faults o done = record {
  later = omega arith;
  cannot_write = λ is. absurd (cc);
}

module _ {W O E : Type 0} where
  -- of jobs that were cut off, the first were before the others
  pub cuts_before : (was old : Lister W O E) (asked later : List Job)
      → CutsOffJobs was (asked ++ later) old
      → (between : Lister W O E) × CutsOffJobs was asked between × CutsOffJobs between later old
  cuts_before was old asked later gives = (
    record old { blocks = unskipped_job_parts None later ++ old.blocks },
    record {
      loans = gives.loans;
      out = gives.out;
      err = gives.err;
      line = gives.line;
      options_same = gives.options_same;
      filter_same = gives.filter_same;
      outcome = gives.outcome;
      sums = gives.sums;
      cut = gives.cut ∙ parts_before_rest asked later old.blocks;
    },
    record {
      loans = (refl, refl);
      out = refl;
      err = refl;
      line = refl;
      options_same = refl;
      filter_same = refl;
      outcome = refl;
      sums = refl;
      cut = refl;
    },
  )

module _ {W O E : Type 0} (told : Option Told) (out : SinkGhosts O) (err : SinkGhosts E) where
  abbrev Goes : Lister W O E → Lister W O E → Type 0
  Goes s t = PreservesListing told out err s t

  abbrev Listed : Option BlockFilter → ListOptions → List Part → Option (List ℕ) → ℕ
      → ErrorStream → Lister W O E → Type 0
  Listed skips m all before faults_before errors l =
      ListerListedParts told out err skips m all before faults_before errors l

  abbrev errors : Lister W O E → ErrorStream
  errors l = lister_error_stream told out err l

  -- the first of the jobs that were put have been written: the others are out still
  pub jobs_written : (was old new : Lister W O E) (asked later jobs : List Job)
      → CutsOffJobs was (asked ++ later) old
      → AllJobsAnswered (lister_filter old) (lister_options old) told asked jobs
      → old.outcome ≡ Done → new.blocks ≡ old.blocks → lister_options new ≡ lister_options old
      → lister_filter new ≡ lister_filter old
      → new.out.ghost_name ≡ old.out.ghost_name
      → new.err.ghost_name ≡ old.err.ghost_name
      → AppendsWarnings (AllJobTextsWritten jobs (out.written old.out.now) (out.written new.out.now)
      new.outcome old.sums new.sums)
      (errors old) (errors new)
      → WriteFaultsCounted (out.faults old.out.now) (out.faults new.out.now) new.outcome
      → (next : Lister W O E) × Goes was next × CutsOffJobs next later new
  jobs_written was old new asked later jobs gives answered done blocks options filter loan err_loan
      lists writes =
      let rest : List Part = unskipped_job_parts None later ++ old.blocks in (
        record new { blocks = rest },
        (
          loan ∙ gives.loans.0,
          err_loan ∙ gives.loans.1,
          λ skips m all before faults_before errors_before so_far.
              (let was_done : was.outcome ≡ Done = sym gives.outcome ∙ done in
              let options_are : lister_options old ≡ m = gives.options_same ∙ so_far.options_are in
              let filter_is : lister_filter old ≡ skips = gives.filter_same ∙ so_far.filter_is in
              let A : ListOptions → Type 0 = λ x. AllJobsAnswered skips x told asked jobs in
              let B : Option BlockFilter → Type 0 = λ x. AllJobsAnswered x (lister_options old)
              told asked jobs in
              let here = subst A options_are (subst B filter_is answered) in
              let P : Outcome → PageSums → O → ErrorStream → Type 0 = λ x sums o e.
              AppendsWarnings (IsSummedOutput (format_of_options m) told so_far.asked before
              (out.written o) x no_sums sums) errors_before e in
              let Q : Outcome → Type 0 = λ x. P x was.sums was.out.now (errors was) in
              let R : PageSums → Type 0 = λ sums. P Done sums was.out.now (errors was) in
              let S : O → Type 0 = λ o. P Done old.sums o (errors was) in
              let T : ErrorStream → Type 0 = λ e. P Done old.sums old.out.now e in
              let V : O → Type 0 =
              λ o. WriteFaultsCounted faults_before (out.faults o) was.outcome in
              let first = subst T (same_errors told out err was (asked ++ later) old gives)
              (subst S (sym gives.out) (subst R (sym gives.sums) (subst Q was_done so_far.lists))) in
              let was_written = subst V (sym gives.out) so_far.writes in record {
                asked = so_far.asked ++ unskipped_job_parts skips asked;
                rest = unskipped_parts skips rest;
                cut = so_far.cut
                    ∙ ap (λ (l : List Part). so_far.asked ++ l) (so_far.left was_done
                    ∙ unskipped_after_cut skips asked was.blocks rest (gives.cut
                    ∙ parts_before_rest asked later old.blocks))
                    ∙ sym (append_assoc so_far.asked (unskipped_job_parts skips asked)
                    (unskipped_parts skips rest));
                left = λ _. refl;
                options_are = options ∙ options_are;
                filter_is = filter ∙ filter_is;
                lists = warns_then _ _ _ _ _ _
                    (λ v w before_it now_it. summed_append (format_of_options m) told so_far.asked
                    (unskipped_job_parts skips asked) before
                    (out.written old.out.now) (out.written new.out.now) new.outcome no_sums old.sums
                    new.sums v w before_it (now_it skips m told asked here)) first lists;
                writes = written_then _ _ _ _ was_written.later writes;
              }),
        ),
        record {
          loans = (refl, refl);
          out = refl;
          err = refl;
          line = refl;
          options_same = refl;
          filter_same = refl;
          outcome = refl;
          sums = refl;
          cut = ap (λ (l : List Part). unskipped_job_parts None later ++ l) (sym blocks);
        },
      )

  -- from the first jobs to the last
  ended : (all : List Part) (s t : Lister W O E) → s.outcome ≡ Done
      → unskipped_parts (lister_filter s) s.blocks ≡ all → s.sums ≡ no_sums → Goes s t
      → Listed (lister_filter s) (lister_options s) all (out.written s.out.now)
      (out.faults s.out.now) (errors s) t
  ended all s t done same none goes =
      goes.2 (lister_filter s) (lister_options s) all (out.written s.out.now)
      (out.faults s.out.now) (errors s) (record {
        asked = [];
        rest = all;
        cut = refl;
        left = λ _. sym same;
        options_are = refl;
        filter_is = refl;
        lists = warns_none _ (errors s) (rw (done, none) (summed_none
            (format_of_options (lister_options s)) told (out.written s.out.now) no_sums));
        writes = nothing_written (out.faults s.out.now) s.outcome done;
      })

  pub all_listed : (all : List Part) (s t : Lister W O E) → s.outcome ≡ Done
      → unskipped_parts (lister_filter s) s.blocks ≡ all → s.sums ≡ no_sums → Goes s t
      → ListerIsOver t
      → AppendsWarnings (IsSummedOutput (format_of_options (lister_options s)) told all
      (out.written s.out.now) (out.written t.out.now) t.outcome no_sums t.sums) (errors s)
      (errors t)
  all_listed all s t done same no_sum goes over =
      let at = ended all s t done same no_sum goes in
      let P : List Part → Type 0 =
      λ l. AppendsWarnings (IsSummedOutput (format_of_options (lister_options s)) told l
      (out.written s.out.now) (out.written t.out.now) t.outcome no_sums t.sums) (errors s)
      (errors t) in
      let more : t.outcome ≢ Done → P all =
      λ stops. subst P (sym at.cut)
      (warns_also _ _ _ _ (λ w listed. summed_more (format_of_options (lister_options s))
      told at.asked at.rest _ _ t.outcome _ _ w stops listed) at.lists) in
      ⊎_elim more
      (λ none. ⊎_elim
      (λ is. (let whole : all ≡ at.asked =
      at.cut ∙ ap (λ (l : List Part). at.asked ++ l) (at.left is
      ∙ ap (unskipped_parts (lister_filter s)) none)
      ∙ append-nil at.asked in subst P (sym whole) at.lists))
      more (is_done t.outcome))
      over

  pub all_written : (all : List Part) (s t : Lister W O E) → s.outcome ≡ Done
      → unskipped_parts (lister_filter s) s.blocks ≡ all → s.sums ≡ no_sums → Goes s t
      → WriteFaultsCounted (out.faults s.out.now) (out.faults t.out.now) t.outcome
  all_written all s t done same none goes = (ended all s t done same none goes).writes
