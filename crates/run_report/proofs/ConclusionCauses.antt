-- Why a run ended as it did that was concluded behind its listing.
use Rattle.std.proofs.Common.{◌≡◌, ◌≢◌, ◌⊎◌, ℕ, ◌≤◌, List, refl, sym, ap, ◌∙◌, subst, arith, inl}
use Rattle.std.proofs.Common.{inr, true, false}
use Rattle.std.specs.Prelude.{Option}
use Rattle.heap_scan.specs.declared.sums.PageSums.{PageSums}
use Rattle.aio_disk.specs.Counts.{CountRose, ShelfCounts}
use Rattle.command_line.specs.Command.{Command}
use Rattle.run_report.specs.Outcomes.{is_refused, is_output_cut_off}
use Rattle.run_report.specs.Run.{IsConclusion}
use Rattle.run_report.specs.Causes.{HasCauses, CallsInOrder, DisksWereOpened}
use Rattle.run_report.specs.Totals.{AreRunNumbers}
use Rattle.run_report.specs.declared.report.Numbers.{Numbers}
use Rattle.run_report.specs.declared.report.Outcome.{Outcome}
use Rattle.run_report.specs.declared.report.Outcome.TheVariants.{Done, Usage, CannotOpen, NoLength}
use Rattle.run_report.specs.declared.report.Outcome.TheVariants.{Unread, CannotWrite, NoMemory}
use Rattle.run_report.specs.declared.report.Outcome.TheVariants.{FaultsFound}
use Rattle.run_report.proofs.ConcludedRuns.{conclusion_by, cut_not_refused}

is_cannot_write : (o : Outcome) → (o ≡ CannotWrite) ⊎ (o ≢ CannotWrite)
is_cannot_write CannotWrite = inl refl
is_cannot_write _ = inr (λ e. cc)

module _ (c : Command) (sums : PageSums) (b a : Option (List ℕ)) (ended o : Outcome)
    (is : IsConclusion c sums ended b a o) where
  -- what is no end of a listing that went on to its end was that of the listing
  same_outcome : (x : Outcome) → x ≢ FaultsFound → is_output_cut_off x ≡ false → o ≡ x → ended ≡ x
  same_outcome x not_found not_cut same = elim (conclusion_by c sums b a ended o is) [
    | inl kept ↦ sym kept ∙ same
    | inr closed ↦ elim closed.1 [
      | inl found ↦ absurd (not_found (sym same ∙ found))
      | inr cut ↦ absurd (let whole = ap is_output_cut_off same in cc)
    ]
  ]

  same_refusal : is_refused o ≡ true → is_refused ended ≡ true
  same_refusal refused = elim (conclusion_by c sums b a ended o is) [
    | inl kept ↦ ap is_refused (sym kept) ∙ refused
    | inr closed ↦ elim closed.1 [
      | inl found ↦ absurd (let begun = ap is_refused found in cc)
      | inr cut ↦ absurd (let begun = cut_not_refused o cut in cc)
    ]
  ]

  -- an end that came early was that of the run
  pub early_end : ended ≢ Done → o ≡ ended
  early_end early = elim (conclusion_by c sums b a ended o is) [
    | inl kept ↦ kept
    | inr closed ↦ absurd (early closed.0)
  ]

  pub concluded_causes : (before now : ShelfCounts) (fb fm fn : ℕ)
      → HasCauses before now fb fm ended → fm ≤ fn
      → (o ≡ CannotWrite → ended ≢ CannotWrite → CountRose fm fn) → HasCauses before now fb fn o
  concluded_causes before now fb fm fn causes later wrote = record {
    counts_not_reduced = causes.counts_not_reduced;
    write_faults_not_reduced = omega (arith, causes.write_faults_not_reduced);
    cannot_open = λ e. causes.cannot_open (same_outcome CannotOpen (λ f. cc) refl e);
    no_length = λ r e. causes.no_length r (same_outcome (NoLength r) (λ f. cc) refl e);
    unread = λ r k e. causes.unread r k (same_outcome (Unread r k) (λ f. cc) refl e);
    cannot_write = λ e. elim (is_cannot_write ended) [
      | inl was ↦ (let rose = causes.cannot_write was in omega arith)
      | inr not ↦ (let rose = wrote e not in omega (arith, causes.write_faults_not_reduced))
    ];
  }

  pub concluded_order : (before now : ShelfCounts) → CallsInOrder before now ended
      → CallsInOrder before now o
  concluded_order before now order = record {
    usage = λ e. order.usage (same_outcome Usage (λ f. cc) refl e);
    refused = λ e. order.refused (same_refusal e);
  }

  pub concluded_numbers : (generated : Option ℕ) (command : Option Command)
      (before now : ShelfCounts) (n : Numbers) → AreRunNumbers generated command before now ended n
      → AreRunNumbers generated command before now o n
  concluded_numbers generated command before now n are = record {
    sum = are.sum;
    reads = are.reads;
    no_workers = are.no_workers;
    none = λ e. are.none (same_refusal e);
  }

  pub concluded_opened : DisksWereOpened o → DisksWereOpened ended
  concluded_opened opened = (
    λ e. opened.0 (early_end (λ done. cc) ∙ e),
    λ e. opened.1 (early_end (λ done. cc) ∙ e),
    λ e. opened.2 (early_end (λ done. cc) ∙ e),
  )

  pub concluded_words : ended ≢ Usage → o ≢ Usage
  concluded_words words = λ e. words (same_outcome Usage (λ f. cc) refl e)
