-- Listing by a map: its pages, and then the blocks that it does not mark.
use Rattle.std.proofs.Common.{◌≡◌, ℕ, zero, suc, ◌+◌, ◌≤◌, List, [], ◌∷◌, length}
use Rattle.std.proofs.Common.{map, take, drop, refl, sym, ap, ◌∙◌, arith, length-take}
use Rattle.std.specs.Prelude.{Option, Some, None, slice_index_or, ⊤}
use Rattle.std.specs.List.{range_with_len}
use Rattle.std.proofs.lemmas.List.{length-map, take_all}
use Rattle.std.proofs.lemmas.List.FromFn.{length-range_with_len}
use Rattle.page_check.specs.Told.{Told}
use Rattle.page_check.specs.declared.rules.PageRules.{PageRules}
use Rattle.page_check.specs.SynchronousAnswer.{Reader, End, found_page, reading_of}
use Rattle.page_check.specs.SynchronousAnswer.{Known}
use Rattle.page_check.specs.SynchronousAnswer.{found_at, entry_given, readable_pages, read_count}
use Rattle.page_check.proofs.AnswersOfLists.{all_given, length_whole}
use Rattle.heap_scan.specs.Job.{IsJobAnswer, block_entry}
use Rattle.heap_scan.specs.Listing.{PageFormat, listing}
use Rattle.heap_scan.specs.Sums.{sums_of}
use Rattle.scan_settings.specs.PageFormats.{page_format}
use Rattle.vis_map.specs.Bits.{Map}
use Rattle.vis_map.specs.MapRequest.{greatest_of, unmarked_entries, needed_pages}
use Rattle.scan_jobs.specs.Jobs.{answered_ending}
use Rattle.scan_settings.specs.ListOptions.{ListOptions}
use Rattle.scan_jobs.specs.ConsumedPages.{MapHasPages, PagesConsumed}
use Rattle.scan_jobs.specs.declared.job.Ending.{Ending as JobEnding}
use Rattle.scan_rounds.proofs.WiderAnswers.{answer_wider}
use Rattle.scan_jobs.proofs.JobsListed.{none_warned}
use Rattle.command_line.specs.Command.{MapOption}
use Rattle.lister.specs.ListerState.{outcome_of_ending, unskipped_parts}
use Rattle.run_report.specs.Output.{IsOutput, ListFormat, format_of_options}
use Rattle.request_list.specs.RequestList.{map_pages_known}
use Rattle.request_list.specs.RequestList.{Page, Part, Request, block_range, blocks_of_parts}
use Rattle.request_list.specs.RequestList.{without_map_pages, with_map_part}
use Rattle.run_report.specs.declared.report.Outcome.{Outcome}
use Rattle.run_report.proofs.CutsInParts.{cut_in_text, stopped_by}
use Rattle.run_report.proofs.SinkTextsAppend.{SinkGrew-nothing, SinkGrew-same}
use Rattle.lister.proofs.JobTextOutput.{text_listed}
use Rattle.request_list.proofs.BlocksOfOneRelation.{AreOf, ArePagesOf, map_listing, other_listing}
use Rattle.request_list.proofs.BlocksOfOneRelation.{other_sums, pages_are_of, range_of}
use Rattle.request_list.proofs.BlocksOfOneRelation.{some_pages_of}

-- the way of a command with this map
abbrev pub format_with_map : ListOptions → Option MapOption → ListFormat
format_with_map m by = record {
  rules = m.rules;
  page_format = without_map_pages by (page_format m.page_text);
}

module _ (m : ListOptions) (told : Option Told) (s : Option (List ℕ)) where
  -- the pages of the map were read, up to this ending, and have no text
  pub map_listed : (by : MapOption) (may : Request → Type 0) (k : ℕ) (found : Map)
      (warnings : List ℕ) (end : JobEnding)
      → PagesConsumed (MapHasPages found warnings) m.rules told may (block_range 1 0 k)
      (answered_ending end)
      → IsOutput (format_with_map m (Some by)) told (block_range 1 0 k ∷ []) s s
      (outcome_of_ending 1 end) warnings
  map_listed by may k found warnings end given =
      let found_by = reading_of m.rules told in
      let blocks = block_range 1 0 k in
      let format = without_map_pages (Some by) (page_format m.page_text) in
      let pages_of_map = pages_are_of 1 found_by blocks given.pages (range_of 1 0 k)
      given.answers.first in
      let answer : IsJobAnswer format found_by (λ _. ⊤) blocks [] warnings
      (sums_of format given.pages) (answered_ending end) = record {
        pages = given.pages;
        text_is = sym (map_listing by (page_format m.page_text) given.pages pages_of_map);
        warnings_are = given.held.warnings_are;
        sums_are = refl;
        answers = answer_wider found_by may (λ _. ⊤) blocks _ (λ e may. tt) given.answers;
      } in
      (text_listed 1 blocks (range_of 1 0 k) (format_with_map m (Some by)) told [] warnings
      (sums_of format given.pages) s s end answer (SinkGrew-nothing s)
      (λ off. given.held.warnings_are ∙ none_warned given.pages (given.none_zeroed off))).0

-- pages of relation 0 have the same text, whether or not there is a map
module _ (m : ListOptions) (told : Option Told) (by : Option MapOption) (xs : List Part)
    (b a : Option (List ℕ)) (o : Outcome) (w : List ℕ) (all : AreOf 0 (blocks_of_parts xs))
    (lists : IsOutput (format_of_options m) told xs b a o w) where
  abbrev pages : List Page
  pages = lists.answer.pages

  abbrev format : PageFormat
  format = page_format m.page_text

  of_relation : ArePagesOf 0 pages
  of_relation =
      pages_are_of 0 (reading_of m.rules told) (blocks_of_parts xs) pages all
      lists.answer.answers.first

  of_zero : (k n : ℕ) → listing format (take n (drop k pages))
      ≡ listing (without_map_pages by format) (take n (drop k pages))
  of_zero k n =
      other_listing by format (take n (drop k pages)) (some_pages_of 0 k n pages of_relation)

  pub jobs_listed : IsOutput (format_with_map m by) told xs b a o w
  jobs_listed = record {
    ends_listing = lists.ends_listing;
    text = lists.text;
    all_warnings = lists.all_warnings;
    sums = lists.sums;
    answer = record {
      pages = lists.answer.pages;
      text_is = lists.answer.text_is ∙ other_listing by format pages of_relation;
      warnings_are = lists.answer.warnings_are;
      sums_are = lists.answer.sums_are ∙ other_sums by format pages of_relation;
      answers = lists.answer.answers;
    };
    named_block_is = lists.named_block_is;
    output_grew = lists.output_grew;
    whole = lists.whole;
    pages_within = lists.pages_within;
    all = lists.all;
    stopped_behind = λ is.
        (let other = without_map_pages by format in
        stopped_by format other xs xs pages pages b b a a o lists.whole lists.whole
        (cut_in_text format other xs pages b a lists.whole of_zero)
        (λ grew. SinkGrew-same b a _ _ (of_zero 0 lists.whole) grew) (lists.stopped_behind is));
    warnings_are = lists.warnings_are;
    no_warnings = lists.no_warnings;
  }

-- the elements of a list, by their places
shifted : {X : Type 0} (f : ℕ → X) (a n : ℕ)
    → map f (range_with_len (suc a) n) ≡ map (λ b. f (suc b)) (range_with_len a n)
shifted f a zero = refl
shifted {X} f a (suc n) =
    let next : suc a + 1 ≡ suc (a + 1) = omega arith in
    ap (λ (l : List X). f (suc a) ∷ l)
    (ap (λ (x : ℕ). map f (range_with_len x n)) next ∙ shifted f (a + 1) n)

by_places : {X : Type 0} (d : X) (xs : List X)
    → map (λ b. slice_index_or xs b d) (range_with_len 0 (length xs)) ≡ xs
by_places d [] = refl
by_places {X} d (x ∷ xs) =
    let one : 0 + 1 ≡ suc 0 = omega arith in
    ap (λ (l : List X). x ∷ l)
    (ap (λ (n : ℕ). map (λ b. slice_index_or (x ∷ xs) b d) (range_with_len n (length xs))) one
    ∙ (shifted (λ b. slice_index_or (x ∷ xs) b d) 0 (length xs) ∙ by_places d xs))

pages_of_blocks : (f : Reader) (r first n : ℕ)
    → map (λ (g : Page). g.page) (map (entry_given f) (block_range r first n))
    ≡ map (λ b. found_page (f r b)) (range_with_len first n)
pages_of_blocks f r first zero = refl
pages_of_blocks f r first (suc n) =
    ap (λ (l : List (List ℕ)). found_page (f r first) ∷ l) (pages_of_blocks f r (first + 1) n)

pub range_count : (r first n : ℕ) → length (block_range r first n) ≡ n
range_count r first n =
    length-map (range_with_len first n) (block_entry r) ∙ length-range_with_len first n

-- a map that was read to its end has the pages that synchronous reads give, or else those that were
-- given
pub added_known : (rules : PageRules) (told : Option Told) (may : Request → Type 0) (k : ℕ) (found : Map)
    (warnings : List ℕ)
    → PagesConsumed (MapHasPages found warnings) rules told may (block_range 1 0 k) (Some End)
    → found.added
    ≡ map (map_pages_known told rules (λ b. slice_index_or found.added b [])) (range_with_len 0 k)
added_known rules None may k found warnings given =
    let many : length found.added ≡ k =
    ap length given.held.added ∙ length-map given.pages (λ (g : Page). g.page)
    ∙ given.answers.endings.0 ∙ range_count 1 0 k in
    sym (by_places [] found.added)
    ∙ ap (λ (n : ℕ). map (λ b. slice_index_or found.added b []) (range_with_len 0 n)) many
added_known rules (Some t) may k found warnings given =
    let f = found_at rules t in
    let blocks = block_range 1 0 k in
    let n = read_count f blocks in
    let end = given.answers.endings.0 in
    let whole : length given.pages ≡ length blocks = length_whole (Known f) blocks given.pages end in
    let all : readable_pages f blocks ≡ given.pages =
    all_given f blocks given.pages given.answers.first end.0 in
    let long : length blocks ≤ n =
    omega (
      arith,
      whole,
      end.0,
      length-map (take n blocks) (entry_given f),
      length-take n blocks,
    ) in
    given.held.added ∙ ap (λ (l : List Page). map (λ g. g.page) l) (sym all)
    ∙ ap (λ (l : List Request). map (λ (g : Page). g.page) (map (entry_given f) l))
    (take_all n blocks long)
    ∙ pages_of_blocks f 1 0 k

-- all that is asked for: the pages of the map, and what it leaves
pub whole_parts : (by : MapOption) (lengths : ℕ → ℕ) (mp : ℕ → List ℕ) (xs : List Request)
    (parts : List Part) (k : ℕ) (added : List (List ℕ)) → k ≡ needed_pages (lengths 1)
    (greatest_of (map (λ (e : Request). e.block) xs))
    → added ≡ map mp (range_with_len 0 k)
    → block_range 1 0 k
    ∷ unskipped_parts (Some (record { pages = added; skip = by.skip })) parts
    ≡ with_map_part (Some by) lengths mp xs parts
whole_parts by lengths mp xs parts k added count same =
    ap (λ (l : List (List ℕ)). block_range 1 0 k ∷ map (unmarked_entries l by.skip) parts) same
    ∙ ap (λ (n : ℕ). block_range 1 0 n
    ∷ map (unmarked_entries (map mp (range_with_len 0 n)) by.skip) parts) count
