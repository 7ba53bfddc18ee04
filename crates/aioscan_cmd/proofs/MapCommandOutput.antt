-- What a command with a map asks for, and that it was listed.
use Rattle.std.proofs.Common.{◌≡◌, ◌≢◌, ℕ, ◌+◌, ◌≤◌, List, [], ◌∷◌, ◌++◌, length, map, refl, sym}
use Rattle.std.proofs.Common.{ap, ◌∙◌, subst, arith, length-append}
use Rattle.std.specs.Option.{option_map}
use Rattle.std.specs.Prelude.{Option, Some, None, IfSome, slice_index, slice_index_or, ⊤}
use Rattle.std.specs.List.{range_with_len}
use Rattle.page_check.specs.Told.{Told}
use Rattle.vis_map.specs.Bits.{Map}
use Rattle.vis_map.specs.MapRequest.{unmarked_entries}
use Rattle.vis_map.specs.declared.map.Skip.{Skip}
use Rattle.scan_jobs.specs.Jobs.{answered_ending, unread_ending_count}
use Rattle.scan_settings.specs.ListOptions.{ListOptions}
use Rattle.scan_settings.specs.Settings.{page_rules}
use Rattle.scan_rounds.specs.Rounds.{MapPagesConsumed}
use Rattle.scan_jobs.specs.BlockFilter.{BlockFilter, unskipped_entries}
use Rattle.scan_jobs.specs.ConsumedPages.{MapHasPages, PagesConsumed}
use Rattle.scan_rounds.proofs.ReadMaps.{map_taken}
use Rattle.scan_rounds.specs.declared.backend.Backend.{Backend}
use Rattle.scan_jobs.specs.declared.job.Ending.{Ending as JobEnding}
use Rattle.scan_jobs.specs.declared.job.Ending.TheVariants as ending
use Rattle.command_line.specs.Command.{IsMapOf, MapOption, options_of_settings}
use Rattle.request_list.specs.RemainingRequests.{AsksForMap, map_page_count, resolved_request_list}
use Rattle.request_list.specs.RemainingRequests.{resolved_parts, resolved_request_parts}
use Rattle.request_list.specs.RemainingRequests.{resolved_requests, resolved_settings}
use Rattle.lister.specs.ListerState.{outcome_of_ending, unskipped_parts}
use Rattle.heap_scan.specs.Sums.{no_sums}
use Rattle.heap_scan.specs.declared.sums.PageSums.{PageSums}
use Rattle.run_report.specs.Output.{IsOutput, format_of_options}
use Rattle.run_report.specs.Sums.{HasListed, IsSummedOutput, saturated_sums}
use Rattle.lister.proofs.JobSumsAdd.{summed_alone}
use Rattle.request_list.specs.RequestList.{map_pages_known}
use Rattle.request_list.specs.RequestList.{Part, Request, block_range, blocks_of_parts, with_map}
use Rattle.request_list.specs.RequestList.{with_map_part}
use Rattle.request_list.specs.declared.cutter.ResolvedCommand.{ResolvedCommand}
use Rattle.command_line.specs.Words.{map_option_view}
use Rattle.command_line.specs.declared.words.map_option.MapOption.{MapOption as MapOfWords}
use Rattle.run_report.specs.declared.report.Outcome.{Outcome}
use Rattle.run_report.specs.declared.report.Outcome.TheVariants.{Done, Unread}
use Rattle.aioscan_cmd.proofs.MapPagesThenBlocks.{added_known, map_listed, range_count}
use Rattle.aioscan_cmd.proofs.MapPagesThenBlocks.{jobs_listed, format_with_map, whole_parts}
use Rattle.request_list.proofs.PartsOfRequests.{request_blocks}
use Rattle.run_report.proofs.OutputsAppend.{lists_append, lists_more, lists_same}
use Rattle.request_list.proofs.BlocksOfOneRelation.{AreOf}
use Rattle.lister.proofs.UnskippedOfOneRelation.{unskipped_of_relation}
use Rattle.lister.proofs.UnskippedBlocksAppend.{resolved_unskipped, unskipped_none}

-- the words name a map
pub asks_for_map : (a : ResolvedCommand) (found : Option MapOfWords) (option : MapOfWords)
    → found ≡ Some option → option_map map_option_view found ≡ (a.command.now).map
    → IfSome (option_map map_option_view found)
    (IsMapOf (a.command.now).generated (a.command.now).files (a.command.now).settings)
    → AsksForMap a option.skip
asks_for_map a found option some given of = record {
  map = map_option_view option;
  given = sym given ∙ ap (option_map map_option_view) some;
  skip_is = refl;
  of = rw some at of;
}

-- a map that a scan has read
module _ {W D : Type 0} (m m' : ListOptions) (told : Option Told) (bs cs : List (Backend W D))
    (k k' : ℕ) (found : Map) (warnings : List ℕ) (end : JobEnding) (some : 1 ≤ length bs)
    (options : m' ≡ m) (count : k' ≡ k)
    (read : MapPagesConsumed m' told bs cs 1 k' found warnings end) where
  taken : PagesConsumed (MapHasPages found warnings) m.rules told (λ _. ⊤) (block_range 1 0 k)
      (answered_ending end)
  taken = map_taken m m' told bs cs 1 k k' found warnings end some options count read

  pub map_part : (by : MapOption) (s : Option (List ℕ))
      → IsOutput (format_with_map m (Some by)) told (block_range 1 0 k ∷ []) s s
      (outcome_of_ending 1 end) warnings
  map_part by s = map_listed m told s by (λ _. ⊤) k found warnings end taken

  pub map_added : end ≡ ending.Pages → found.added
      ≡ map (map_pages_known told m.rules (λ b. slice_index_or found.added b []))
      (range_with_len 0 k)
  map_added all =
      added_known m.rules told (λ _. ⊤) k found warnings
      (subst (λ (e : JobEnding). PagesConsumed (MapHasPages found warnings) m.rules told (λ _. ⊤)
      (block_range 1 0 k) (answered_ending e)) all taken)

pub unread_out : (r : ℕ) (end : JobEnding) (o : Outcome) (q b : ℕ) → o ≡ outcome_of_ending r end
    → o ≡ Unread q b → unread_ending_count end ≡ 1
unread_out r (ending.Unread n) o q b is out = refl
unread_out r ending.Pages o q b is out = absurd (cc)
unread_out r (ending.Invalid n) o q b is out = absurd (cc)
unread_out r (ending.PastEnd n) o q b is out = absurd (cc)
unread_out r ending.NoMemory o q b is out = absurd (cc)

-- without a map all that the FILE words ask for
module _ (a : ResolvedCommand) (none : (a.command.now).map ≡ None) (told : Option Told)
    (given : ℕ → List ℕ) where
  abbrev all_with : Option MapOption → List Request
  all_with o = with_map o (slice_index a.lengths.now)
      (map_pages_known told (page_rules (a.command.now).settings) given) (resolved_requests a)

  abbrev all_parts_with : Option MapOption → List Part
  all_parts_with o = with_map_part o (slice_index a.lengths.now)
      (map_pages_known told (page_rules (a.command.now).settings) given) (resolved_requests a)
      (resolved_parts a)

  abbrev options : ListOptions
  options = options_of_settings (resolved_settings a)

  pub without_map : (b n : Option (List ℕ)) (o : Outcome) (sums : PageSums) (w : List ℕ)
      → IsSummedOutput (format_of_options options) told
      (unskipped_parts None (resolved_parts a)) b n o no_sums sums w
      → HasListed a.command.now told (resolved_request_parts a told given) b n o sums w
  without_map b n o sums w listed =
      let P : Option MapOption → Type 0 =
      λ x. (lists : IsOutput (format_with_map options x) told (all_parts_with x) b n o w)
      × (sums ≡ saturated_sums lists.sums) in
      let Q : List Part → Type 0 =
      λ l. (lists : IsOutput (format_of_options options) told l b n o w)
      × (sums ≡ saturated_sums lists.sums) in
      let as_asked = subst P (sym none) (subst Q (unskipped_none (resolved_parts a))
      (listed.lists, summed_alone sums listed.lists.sums listed.sums_grew)) in
      record { lists = as_asked.0; sums_are = λ _. as_asked.1 }

  pub as_many : length (resolved_request_list a told given) ≡ length (resolved_requests a)
  as_many = ap (λ (x : Option MapOption). length (all_with x)) none

module _ (a : ResolvedCommand) (by : MapOption) (with_it : (a.command.now).map ≡ Some by)
    (told : Option Told) (given : ℕ → List ℕ) where
  abbrev m : ListOptions
  m = options_of_settings (resolved_settings a)

  abbrev mp : ℕ → List ℕ
  mp = map_pages_known told (page_rules (a.command.now).settings) given

  abbrev list_with : Option MapOption → List Request
  list_with o = with_map o (slice_index a.lengths.now) mp (resolved_requests a)

  abbrev pages_read : List Request
  pages_read = block_range 1 0 (map_page_count a)

  abbrev rest : List Request
  rest = unmarked_entries (map mp (range_with_len 0 (map_page_count a)))
      by.skip (resolved_requests a)

  abbrev parts_with : Option MapOption → List Part
  parts_with o = with_map_part o (slice_index a.lengths.now) mp (resolved_requests a)
      (resolved_parts a)

  abbrev rest_parts : List Part
  rest_parts = map (unmarked_entries (map mp (range_with_len 0 (map_page_count a))) by.skip)
      (resolved_parts a)

  as_asked : (b n : Option (List ℕ)) (o : Outcome) (sums : PageSums) (w : List ℕ)
      → IsOutput (format_with_map m (Some by)) told (parts_with (Some by)) b n o w
      → HasListed a.command.now told (resolved_request_parts a told given) b n o sums w
  as_asked b n o sums w lists =
      let P : Option MapOption → Type 0 =
      λ x. IsOutput (format_with_map m x) told (parts_with x) b n o w in record {
        lists = subst P (sym with_it) lists;
        sums_are = λ none. absurd (let some = with_it in cc);
      }

  asked_length : length (resolved_request_list a told given) ≡ map_page_count a + length rest
  asked_length =
      ap (λ (x : Option MapOption). length (list_with x)) with_it
      ∙ length-append pages_read rest
      ∙ ap (λ (n : ℕ). n + length rest) (range_count 1 0 (map_page_count a))

  pub pages_asked : map_page_count a ≤ length (resolved_request_list a told given)
  pages_asked = omega (arith, asked_length)

  -- reading the map stopped
  pub map_stopped : (s : Option (List ℕ)) (o : Outcome) (sums : PageSums) (w : List ℕ) → o ≢ Done
      → IsOutput (format_with_map m (Some by)) told (pages_read ∷ []) s s o w
      → HasListed a.command.now told (resolved_request_parts a told given) s s o sums w
  map_stopped s o sums w stops lists =
      as_asked s s o sums w (lists_more (format_with_map m (Some by)) told (pages_read ∷ [])
      rest_parts s s o w stops lists)

  module _ (skip : Skip) (added : List (List ℕ)) (skip_is : by.skip ≡ skip)
      (known : added ≡ map mp (range_with_len 0 (map_page_count a))) where
    abbrev kept : List Request
    kept = unskipped_entries (Some (record { pages = added; skip = skip })) (resolved_requests a)

    abbrev kept_parts : List Part
    kept_parts = unskipped_parts (Some (record { pages = added; skip = skip })) (resolved_parts a)

    whole_in_parts : pages_read ∷ kept_parts ≡ parts_with (Some by)
    whole_in_parts =
        ap (λ (x : Skip). pages_read
        ∷ unskipped_parts (Some (record { pages = added; skip = x })) (resolved_parts a))
        (sym skip_is) ∙ whole_parts by (slice_index a.lengths.now) mp (resolved_requests a)
        (resolved_parts a) (map_page_count a) added refl known

    pub all_asked : map_page_count a + length kept ≡ length (resolved_request_list a told given)
    all_asked =
        omega (
          arith,
          ap length (request_blocks (slice_index a.lengths.now) mp a.command.now),
          ap (λ (x : Option MapOption). length (blocks_of_parts (parts_with x))) with_it,
          ap (λ (l : List Part). length (blocks_of_parts l)) whole_in_parts,
          length-append pages_read (blocks_of_parts kept_parts),
          ap length (resolved_unskipped (Some (record { pages = added; skip = skip })) a),
          range_count 1 0 (map_page_count a),
        )

    -- the map was read, and then the jobs were listed
    pub map_followed : (s n : Option (List ℕ)) (first last : Outcome) (sums : PageSums)
        (v w : List ℕ) → first ≡ Done → AreOf 0 (resolved_requests a)
        → IsOutput (format_with_map m (Some by)) told (pages_read ∷ []) s s first v
        → IsSummedOutput (format_of_options m) told kept_parts s n last no_sums sums w
        → HasListed a.command.now told (resolved_request_parts a told given) s n last sums (v ++ w)
    map_followed s n first last sums v w done zero before jobs =
        let front = subst (λ (o : Outcome). IsOutput (format_with_map m (Some by))
        told (pages_read ∷ []) s s o v) done before in
        let skips : Option BlockFilter = Some (record { pages = added; skip = skip }) in
        let Z : List Request → Type 0 = λ l. AreOf 0 l in
        let back = jobs_listed m told (Some by) kept_parts s n last w
        (subst Z (sym (resolved_unskipped skips a))
        (unskipped_of_relation 0 skips (resolved_requests a) zero)) jobs.lists in
        as_asked s n last sums (v ++ w)
        (lists_same (format_with_map m (Some by)) told _ _ s n last (v ++ w) whole_in_parts
        (lists_append (format_with_map m (Some by)) told (pages_read ∷ []) kept_parts s s n last
        v w front back))
