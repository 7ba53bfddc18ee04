-- Synchronous reads of generated pages: each block gives its page, up to the last.
use Rattle.std.proofs.Common.{◌≡◌, ℕ, zero, suc, ◌+◌, ◌-◌, ◌<◌, ◌≤◌, ◌^◌, List, ◌∷◌, length, map}
use Rattle.std.proofs.Common.{get_or, refl, sym, ap, subst, ◌∙◌, arith, [], take, true, false}
use Rattle.std.specs.Prelude.{Some, None}
use Rattle.std.specs.List.{range_with_len}
use Rattle.std.proofs.Math.Nat.{min-eq_left}
use Rattle.std.proofs.lemmas.List.{take_all}
use Rattle.std.proofs.lemmas.List.FromFn.{length-map-range_with_len}
use Rattle.page_check.specs.SynchronousAnswer.{Reader, Found, Page as FoundPage, found_at}
use Rattle.page_check.specs.declared.rules.PageRules.{PageRules}
use Rattle.page_check.specs.declared.rules.PageMark.TheVariants.{Valid}
use Rattle.page_check.specs.SynchronousAnswer.{found_given, is_page, readable_pages, first_stop}
use Rattle.page_check.specs.Verdict.{IsValid}
use Rattle.page_check.proofs.SynchronousReads.{readable_pages-cons, readable_pages-none}
use Rattle.page_check.proofs.SynchronousReads.{first_stop-cons, first_stop-none}
use Rattle.heap_scan.specs.Job.{block_entry}
use Rattle.heap_scan.specs.Listing.{PageFormat, fault_count_for}
use Rattle.heap_scan.specs.Sums.{FitSums, sums_of}
use Rattle.heap_scan.specs.Warnings.{warnings_of}
use Rattle.heap_scan.specs.declared.sums.PageSums.{PageSums}
use Rattle.heap_scan.proofs.SumsOverPages.{sums_fit, few_items}
use Rattle.scan_settings.specs.PageFormats.{page_format}
use Rattle.scan_settings.specs.declared.page_text.PageText.TheVariants.{Items}
use Rattle.generated_pages.specs.GeneratedPages.{generated_page, generated_told}
use Rattle.request_list.specs.RequestList.{Request, Page, block_range}
use Rattle.run_report.specs.Run.{outcome_of_stop, summary_line}
use Rattle.run_report.specs.Sums.{saturated_sums}
use Rattle.run_report.specs.declared.report.Outcome.TheVariants.{Done}
use Rattle.generated_pages.proofs.GeneratedPagesValid.{found_of_generated, generated_page_valid}

abbrev given_of : ℕ → Page
given_of block = record {
  entry = block_entry 0 block;
  page = generated_page block;
  mark = Valid;
}

abbrev givens : ℕ → ℕ → List Page
givens start m = map given_of (range_with_len start m)

valid_from : (start m k : ℕ) (d : Page) → k < length (givens start m)
    → IsValid (get_or (givens start m) k d).page
valid_from start zero k d below = absurd (omega arith)
valid_from start (suc m) zero d below = generated_page_valid start
valid_from start (suc m) (suc k) d below = valid_from (start + 1) m k d (omega arith)

abbrev items : PageFormat
items = page_format Items

-- no fault is told of them
unmarked_from : (start m k : ℕ) (d : Page) → k < length (givens start m)
    → fault_count_for items (get_or (givens start m) k d) < 2 ^ 16
unmarked_from start zero k d below = absurd (omega arith)
unmarked_from start (suc m) zero d below = omega arith
unmarked_from start (suc m) (suc k) d below = unmarked_from (start + 1) m k d (omega arith)

saturated_if_fitting : (s : PageSums) → FitSums s → saturated_sums s ≡ s
saturated_if_fitting s fit =
    let pages = min-eq_left {n = s.pages} {m = 2 ^ 64 - 1} (omega (arith, fit.0)) in
    let zeros = min-eq_left {n = s.zero} {m = 2 ^ 64 - 1} (omega (arith, fit.1)) in
    let pointers = min-eq_left {n = s.items} {m = 2 ^ 64 - 1} (omega (arith, fit.2)) in
    let faults = min-eq_left {n = s.faults} {m = 2 ^ 64 - 1} (omega (arith, fit.3)) in
    rw (pages, zeros, pointers, faults) refl

-- none of these pages was zeroed
quiet_from : (start m k : ℕ) → warnings_of (take k (givens start m)) ≡ []
unfolding warnings_of
quiet_from start m zero = refl
quiet_from start zero (suc k) = refl
quiet_from start (suc m) (suc k) = quiet_from (start + 1) m k

module _ (rules : PageRules) (off : rules.checksums ≡ false) (n : ℕ) (few : n ≤ 4096) where
  abbrev f : Reader
  f = found_at rules (generated_told n)

  found_here : (block : ℕ) → block < n → f 0 block ≡ FoundPage Valid (generated_page block)
  found_here block below = found_of_generated rules off n block few below

  pages_from : (start m : ℕ) → start + m ≤ n
      → readable_pages f (block_range 0 start m) ≡ givens start m
  pages_from start zero within = readable_pages-none f
  pages_from start (suc m) within =
      let is = found_here start (omega arith) in
      let rest = block_range 0 (start + 1) m in
      readable_pages-cons f (block_entry 0 start) rest (ap is_page is)
      ∙ ap (λ (x : Found). found_given x (block_entry 0 start) ∷ readable_pages f rest) is
      ∙ ap (λ (l : List Page). given_of start ∷ l) (pages_from (start + 1) m (omega arith))

  stop_from : (start m : ℕ) → start + m ≤ n → first_stop f (block_range 0 start m) ≡ None
  stop_from start zero within = first_stop-none f
  stop_from start (suc m) within =
      first_stop-cons f (block_entry 0 start) (block_range 0 (start + 1) m)
      (ap is_page (found_here start (omega arith)))
      ∙ stop_from (start + 1) m (omega arith)

  abbrev requests : List Request
  requests = block_range 0 0 n

  pub generated_outcome_done : outcome_of_stop f (first_stop f requests) ≡ Done
  generated_outcome_done = ap (outcome_of_stop f) (stop_from 0 n (omega arith))

  fit_givens : FitSums (sums_of items (givens 0 n))
  fit_givens =
      let size = length-map-range_with_len given_of 0 n in
      sums_fit items (givens 0 n)
      (λ k d below. (let few = few_items _ (valid_from 0 n k d below) in omega arith))
      (λ k d below. unmarked_from 0 n k d below) (omega (arith, size))

  -- the line of the sums of a run that listed all blocks, however
  pub generated_summary : (format : PageFormat)
      → summary_line (saturated_sums (sums_of format (readable_pages f requests)))
      ≡ summary_line (sums_of items (readable_pages f requests))
  unfolding sums_of
  generated_summary format =
      let P : List Page → Type 0 = λ l. summary_line (saturated_sums (sums_of items l))
      ≡ summary_line (sums_of items l) in
      subst P (sym (pages_from 0 n (omega arith)))
      (ap summary_line (saturated_if_fitting _ fit_givens))

  -- there is nothing to warn of
  pub none_warned : (k : ℕ) → warnings_of (take k (readable_pages f requests)) ≡ []
  none_warned k =
      ap (λ (l : List Page). warnings_of (take k l)) (pages_from 0 n (omega arith))
      ∙ quiet_from 0 n k

  pub all_quiet : warnings_of (readable_pages f requests) ≡ []
  all_quiet =
      let m = length (readable_pages f requests) in
      ap warnings_of (sym (take_all m (readable_pages f requests) (omega arith))) ∙ none_warned m
