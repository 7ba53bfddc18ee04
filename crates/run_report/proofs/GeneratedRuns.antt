-- Runs over generated pages, of which nothing is read.
use Rattle.std.proofs.Common.{◌≡◌, ℕ, ◌≤◌, List, refl, sym, subst, ◌∙◌, arith, inl, inr, []}
use Rattle.std.proofs.Common.{false}
use Rattle.std.specs.Prelude.{Option}
use Rattle.page_check.specs.Told.{relation_block_count}
use Rattle.page_check.specs.declared.rules.DamagedPages.{DamagedPages}
use Rattle.page_check.specs.declared.rules.PageRules.{PageRules}
use Rattle.scan_settings.specs.PageFormats.{page_format}
use Rattle.scan_settings.specs.declared.page_text.PageText.TheVariants.{Items}
use Rattle.heap_scan.specs.Sums.{sums_of}
use Rattle.aio_disk.specs.Counts.{ShelfCounts}
use Rattle.run_report.specs.Causes.{HasCauses}
use Rattle.command_line.specs.Command.{length_limit}
use Rattle.generated_pages.specs.GeneratedPages.{generated_told}
use Rattle.run_report.specs.Run.{summary_line}
use Rattle.run_report.specs.Outcomes.{unread_count}
use Rattle.run_report.specs.Outcomes.{is_refused}
use Rattle.run_report.specs.Output.{ObservedState, OutputGrew, WriteFaultsCounted, observed_state}
use Rattle.run_report.specs.Run.{EarlierFit, IsGeneratedOutcome, FitsInOrder, IsWarned, IsClosed}
use Rattle.run_report.specs.Run.{IsGeneratedRun, RunWrites, generated_run}
use Rattle.run_report.specs.declared.report.Outcome.{Outcome}
use Rattle.run_report.specs.declared.report.Outcome.TheVariants.{Done, CannotWrite, NoMemory}
use Rattle.run_report.proofs.SinkTextsAppend.{SinkGrewByPrefix-nothing}
use Rattle.run_report.proofs.ConcludedRuns.{by_cut}
use Rattle.generated_pages.proofs.GeneratedPagesValid.{generated_block_count}
use Rattle.run_report.proofs.GeneratedPageReads.{generated_outcome_done, all_quiet}

-- what holds of each of the three ends holds of the end of such a run
by_end : (P : Outcome → Type 0) → P Done → P CannotWrite → P NoMemory → (o : Outcome)
    → IsGeneratedOutcome o → P o
by_end P done cut memory o ends = elim ends [
  | inl is ↦ subst P (sym is) done
  | inr other ↦ elim other [
    | inl is ↦ subst P (sym is) cut
    | inr is ↦ subst P (sym is) memory
  ]
]

pub generated_not_refused : (o : Outcome) → IsGeneratedOutcome o → is_refused o ≡ false
generated_not_refused o ends = by_end (λ x. is_refused x ≡ false) refl refl refl o ends

-- the shelf that was handed in is as it was
pub generated_causes : (s : ShelfCounts) (wb wn : ℕ) (o : Outcome) → IsGeneratedOutcome o
    → WriteFaultsCounted wb wn o → HasCauses s s wb wn o
generated_causes s wb wn o ends written =
    let begun = generated_not_refused o ends in
    let all_read = by_end (λ x. unread_count x ≡ 0) refl refl refl o ends in record {
      counts_not_reduced = record {
        open_faults = omega arith;
        length_faults = omega arith;
        faults = omega arith;
        reads = omega arith;
      };
      write_faults_not_reduced = written.later;
      cannot_open = λ is. absurd (let refused = rw is at begun in cc);
      no_length = λ r is. absurd (let refused = rw is at begun in cc);
      unread = λ r b is. absurd (let one = rw is at all_read in omega arith);
      cannot_write = written.cannot_write;
    }

-- how generated pages are read
abbrev pub unverified : DamagedPages → PageRules
unverified z = record { checksums = false; damaged = z }

-- a line behind the listing was written, or a begin of it
pub closed_ends : (text : List ℕ) (b a : Option (List ℕ)) (o : Outcome) → IsClosed text Done b a o
    → IsGeneratedOutcome o × OutputGrew o b a text
closed_ends text b a o is =
    let P : Outcome → Type 0 = λ x. IsGeneratedOutcome x × OutputGrew x b a text in elim is [
      | inl all ↦ subst P (sym all.0) (inl refl, all.1)
      | inr cut ↦ by_cut P (inr (inl refl), cut.1) (inr (inr refl), cut.1) o cut.0
    ]

module _ (z : DamagedPages) (n : ℕ) (few : n ≤ 4096) where
  -- the line of the sums
  abbrev text : List ℕ
  text = summary_line (sums_of (page_format Items) (generated_run z n).pages)

  -- the one relation of generated pages is not too long
  pub generated_fits : EarlierFit (length_limit 131072) (relation_block_count (generated_told n)) 1
  generated_fits q below =
      let first : q ≡ 0 = omega arith in
      let blocks = generated_block_count n few in
      rw first (omega (arith, blocks))

  -- the line of the sums was written, or a begin of it, and there is nothing to warn of
  pub ran_generated : (b a : Option (List ℕ)) (k : ℕ) (o : Outcome) (w : List ℕ)
      → IsGeneratedOutcome o → w ≡ [] → OutputGrew o b a text
      → IsGeneratedRun z n (observed_state b k) (observed_state a k) o w
  ran_generated b a k o w ends none grew = record {
    ends = ends;
    in_order = by_end (λ x. FitsInOrder (length_limit 131072)
        (relation_block_count (generated_told n)) 1 x) generated_fits generated_fits tt o ends;
    writes = by_end (λ x. OutputGrew x b a text → RunWrites (generated_run z n) b a x)
        (λ all. (generated_outcome_done (unverified z) refl n few, all)) (λ cut. cut) (λ cut. cut) o ends grew;
    reads = refl;
    no_warnings = none;
    warnings_are = by_end (λ x. IsWarned (generated_run z n) b a x w)
        (none ∙ sym (all_quiet (unverified z) refl n few)) none none o ends;
  }

-- there was no memory
pub ran_generated_without_memory : (z : DamagedPages) (n : ℕ) (s : ObservedState) (w : List ℕ) → w ≡ []
    → IsGeneratedRun z n s s NoMemory w
ran_generated_without_memory z n s w none = record {
  ends = inr (inr refl);
  in_order = tt;
  writes = SinkGrewByPrefix-nothing s.written s.written _ refl;
  reads = refl;
  no_warnings = none;
  warnings_are = none;
}
