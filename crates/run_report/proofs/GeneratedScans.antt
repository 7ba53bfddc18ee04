-- A scan of the shelf of generated pages lists them all, or finds no memory.
use Rattle.std.proofs.Common.{◌≡◌, ◌≢◌, ◌⊎◌, ℕ, ◌-◌, List, ◌∷◌, length, ap, subst, ◌∙◌}
use Rattle.std.proofs.Common.{arith, inl, inr, append-nil, [], take, true, false, Bool}
use Rattle.std.specs.Prelude.{Option, Some}
use Rattle.page_check.specs.Told.{Told, relation_block_count}
use Rattle.page_check.specs.SynchronousAnswer.{found_at, readable_pages, first_stop, found_page}
use Rattle.page_check.specs.declared.rules.PageRules.{PageRules}
use Rattle.scan_settings.specs.Settings.{page_rules}
use Rattle.scan_settings.specs.PageFormats.{page_format}
use Rattle.scan_settings.specs.declared.page_text.PageText.TheVariants.{Items}
use Rattle.heap_scan.specs.Sums.{sums_of}
use Rattle.heap_scan.specs.Warnings.{warnings_of}
use Rattle.heap_scan.specs.declared.sums.PageSums.{PageSums}
use Rattle.aio_disk.specs.Counts.{CountRose, ShelfCounts}
use Rattle.aio_disk.specs.Shelf.{are_there, shelf_told}
use Rattle.command_line.specs.Command.{Command, AsksForGeneratedPages, without_duplicates}
use Rattle.command_line.specs.Command.{MapOption, command_relations}
use Rattle.command_line.specs.Command.{relations_with}
use Rattle.generated_pages.specs.GeneratedPages.{generated_file_name, generated_shelf_files}
use Rattle.generated_pages.specs.GeneratedPages.{generated_told}
use Rattle.run_report.specs.Causes.{HasCauses}
use Rattle.run_report.specs.Output.{ObservedState}
use Rattle.request_list.specs.RequestList.{Request, block_range, request_list, all_file_requests}
use Rattle.request_list.specs.RequestList.{with_map}
use Rattle.run_report.specs.Run.{summary_line, generated_run}
use Rattle.run_report.specs.Sums.{saturated_sums}
use Rattle.run_report.specs.Run.{IsWarned, IsListedRun, outcome_of_stop, listed_run}
use Rattle.run_report.specs.declared.report.Outcome.{Outcome}
use Rattle.run_report.specs.declared.report.Outcome.TheVariants.{Done, NoMemory, Usage, CannotOpen}
use Rattle.generated_pages.proofs.GeneratedPagesValid.{generated_block_count}
use Rattle.run_report.proofs.GeneratedPageReads.{generated_outcome_done, all_quiet, none_warned}
use Rattle.run_report.proofs.GeneratedPageReads.{generated_summary}
use Rattle.run_report.proofs.GeneratedRuns.{generated_fits}
use Rattle.run_report.proofs.ExactOutcomes.{faultless}
use Rattle.run_report.proofs.FileRunsOverTold.{writes, is_warned, has_sums}

module _ (n : ℕ) (c : Command) (is : AsksForGeneratedPages n c) where
  abbrev rules : PageRules
  rules = page_rules c.settings

  generated_relations : command_relations c ≡ without_duplicates (generated_file_name ∷ [])
  generated_relations =
      ap (λ (map : Option MapOption). relations_with c.files map) is.4 ∙ ap without_duplicates is.0

  -- the shelf of generated pages tells them
  pub generated_contents : shelf_told (Some (generated_shelf_files n)) (command_relations c)
      ≡ Some (generated_told n)
  generated_contents =
      ap (λ (names : List (List ℕ)). shelf_told (Some (generated_shelf_files n))
      names) generated_relations

  pub one_relation : length (command_relations c) ≡ 1
  one_relation = ap (λ (names : List (List ℕ)). length names) generated_relations

  pub generated_requests : all_file_requests (relation_block_count (generated_told n)) c
      ≡ block_range 0 0 n
  unfolding all_file_requests
  generated_requests =
      let blocks = generated_block_count n is.3 in
      rw (is.0, is.1, is.2, is.4, blocks) (append-nil (block_range 0 0 (n - 0))
      ∙ ap (block_range 0 0) (omega arith))

  pub generated_list : (map_page : ℕ → List ℕ)
      → request_list (relation_block_count (generated_told n)) map_page c ≡ block_range 0 0 n
  generated_list map_page =
      ap (λ (o : Option MapOption). with_map o (relation_block_count (generated_told n)) map_page
      (all_file_requests (relation_block_count (generated_told n)) c)) is.4
      ∙ generated_requests

  -- and has their file
  pub generated_there : are_there (generated_shelf_files n).named (command_relations c) ≡ true
  generated_there =
      ap (λ (names : List (List ℕ)). are_there (generated_shelf_files n).named
      names) generated_relations

  -- the run over them listed all, or found no memory
  module _ (told : Option Told) {segment : ℕ} (relations : ℕ) (b a : ObservedState) (o : Outcome)
      (sums : PageSums) (w : List ℕ)
      (told_is : told ≡ Some (generated_told n)) (one : relations ≡ 1)
      (ran : IsListedRun told segment relations c b a o sums w) where
    ran_here : IsListedRun (Some (generated_told n)) segment (length (command_relations c)) c b a o sums w
    ran_here = rw (one_relation, ← one, ← told_is) ran

    pub all_listed : (before now : ShelfCounts) (wb wn : ℕ) → HasCauses before now wb wn o
        → o ≢ Usage → o ≢ CannotOpen → ¬ CountRose before.length_faults now.length_faults
        → ¬ CountRose before.faults now.faults → ¬ CountRose wb wn → (o ≡ Done) ⊎ (o ≡ NoMemory)
    all_listed before now wb wn causes words sure lengths reads failed =
        let run = listed_run (generated_told n) c in
        let found = found_at rules (generated_told n) in
        let done : run.outcome ≡ Done =
        ap (λ (l : List Request). outcome_of_stop found (first_stop found l))
        (generated_list (λ block. found_page (found 1 block)))
        ∙ generated_outcome_done rules is.5 n is.3 in
        elim (faultless run b.written a.written o words sure
        (λ r is. lengths (causes.no_length r is)) (λ r k is. reads (causes.unread r k is))
        (λ is. failed (causes.cannot_write is)) ran_here.in_order
        (writes (generated_told n) _ c b a o sums w ran_here)
        (λ q below. generated_fits c.settings.damaged n is.3 q (omega (arith, below, one_relation)))) [
          | inl same ↦ inl (same ∙ done)
          | inr memory ↦ inr memory
        ]

    -- and has warned of nothing
    pub none_to_warn : (o ≡ Done) ⊎ (o ≡ NoMemory) → w ≡ []
    none_to_warn ends =
        let found = found_at rules (generated_told n) in
        let run = listed_run (generated_told n) c in
        let said = is_warned (generated_told n) _ c b a o sums w ran_here in
        let Q : Outcome → Type 0 = λ x. IsWarned run b.written a.written x w in elim ends [
          | inl done ↦ subst Q done said
              ∙ ap (λ (l : List Request). warnings_of (readable_pages found l))
              (generated_list (λ block. found_page (found 1 block)))
              ∙ all_quiet rules is.5 n is.3
          | inr memory ↦ let cut = subst Q memory said in
              cut.warnings_are
              ∙ ap (λ (l : List Request). warnings_of (take cut.k (readable_pages found l)))
              (generated_list (λ block. found_page (found 1 block)))
              ∙ none_warned rules is.5 n is.3 cut.k
        ]

    -- the line of the sums is that of the pages
    pub listed_summary : o ≡ Done → summary_line sums
        ≡ summary_line (sums_of (page_format Items) (generated_run c.settings.damaged n).pages)
    listed_summary done =
        let found = found_at rules (generated_told n) in
        let format = (listed_run (generated_told n) c).format in
        let L : Outcome → Type 0 =
        λ x. IsListedRun (Some (generated_told n)) segment (length (command_relations c)) c b a x sums w in
        let S : Bool → Type 0 = λ x. summary_line sums
        ≡ summary_line (sums_of (page_format Items)
        (readable_pages (found_at (record { checksums = x; damaged = c.settings.damaged })
        (generated_told n)) (block_range 0 0 n))) in
        let has = has_sums (generated_told n) _ c b a sums w (subst L done ran_here) is.4 in
        subst S is.5
        (ap summary_line has
        ∙ ap (λ (l : List Request). summary_line (saturated_sums (sums_of format
        (readable_pages found l)))) (generated_list (λ block. found_page (found 1 block)))
        ∙ generated_summary rules is.5 n is.3 format)
