-- What is known of one run over contents that are told.
use Rattle.std.proofs.Common.{◌≡◌, ℕ, List, [], length, refl, sym, ap, ◌∙◌, subst}
use Rattle.std.specs.Prelude.{Option, Some, None}
use Rattle.page_check.specs.Told.{Told, relation_block_count}
use Rattle.page_check.specs.SynchronousAnswer.{Found, Page as FoundPage, BadPage, Absent}
use Rattle.page_check.specs.SynchronousAnswer.{Reader, found_page, End, PastEnd}
use Rattle.page_check.specs.SynchronousAnswer.{Invalid as EndsInvalid, found_at, entry_found}
use Rattle.page_check.specs.SynchronousAnswer.{readable_pages, first_stop, found_ending}
use Rattle.page_check.specs.SynchronousAnswer.{stop_ending}
use Rattle.heap_scan.specs.Listing.{listing}
use Rattle.command_line.specs.Command.{Command, length_limit, command_relations}
use Rattle.request_list.specs.RequestList.{Request, Part, blocks_of_parts, request}
use Rattle.request_list.specs.RequestList.{request_list, request_parts}
use Rattle.run_report.specs.Output.{ObservedState, ListFormat, command_format}
use Rattle.run_report.specs.Run.{SynchronousRun, listed_run, IsListedRun, IsWarned}
use Rattle.run_report.specs.Run.{RunWrites, outcome_of_found, outcome_of_stop}
use Rattle.run_report.specs.declared.report.Outcome.{Outcome}
use Rattle.run_report.specs.declared.report.Outcome.TheVariants.{Done, Invalid, NoMemory, Missing}
use Rattle.run_report.specs.declared.report.Outcome.TheVariants.{Unread, CannotWrite, FaultsFound}
use Rattle.run_report.specs.Sums.{saturated_sums}
use Rattle.heap_scan.specs.Sums.{sums_of}
use Rattle.heap_scan.specs.declared.sums.PageSums.{PageSums}
use Rattle.run_report.proofs.SinkTextsAppend.{SinkGrew-same}
use Rattle.request_list.proofs.PartsOfRequests.{request_blocks}
use Rattle.run_report.proofs.RunsOverTold.{cut_at, stop_here, text_all, text_begins, sums_all}
use Rattle.run_report.proofs.RunsOverTold.{warned_all, warned_first, warned_up_to}

-- the outcome where reading ends
done_by : (f : Found) (r b block : ℕ) → found_ending f block ≡ End → outcome_of_found f r b ≡ Done
done_by (FoundPage mark bytes) r b block is = refl
done_by BadPage r b block is = absurd (cc)
done_by Absent r b block is = absurd (cc)

done_at : (f : Reader) (stop : Option Request) → stop_ending f stop ≡ End
    → outcome_of_stop f stop ≡ Done
done_at f None is = refl
done_at f (Some e) is = done_by (entry_found f e) e.relation e.block e.block is

invalid_by : (f : Found) (r b : ℕ) → found_ending f b ≡ EndsInvalid b
    → outcome_of_found f r b ≡ Invalid r b
invalid_by (FoundPage mark bytes) r b is = absurd (cc)
invalid_by BadPage r b is = refl
invalid_by Absent r b is = absurd (cc)

missing_by : (f : Found) (r b : ℕ) → found_ending f b ≡ PastEnd b
    → outcome_of_found f r b ≡ Missing r b
missing_by (FoundPage mark bytes) r b is = absurd (cc)
missing_by BadPage r b is = absurd (cc)
missing_by Absent r b is = refl

pub untouched_same : (b a : ObservedState) → a ≡ b → a.written ≡ b.written
untouched_same b a same = ap (λ (s : ObservedState). s.written) same

module _ (t : Told) (n : ℕ) (c : Command) (b a : ObservedState) where
  abbrev m : ListFormat
  m = command_format c

  abbrev found : Reader
  found = found_at m.rules t

  abbrev map_page : ℕ → List ℕ
  map_page block = found_page (found 1 block)

  abbrev parts_of_run : List Part
  parts_of_run = request_parts (relation_block_count t) map_page c

  abbrev blocks : List Request
  blocks = blocks_of_parts parts_of_run

  -- the run, where these are the blocks that are asked for
  abbrev run_over : List Request → SynchronousRun
  run_over requests = record {
    relations = length (command_relations c);
    lengths = relation_block_count t;
    limit = length_limit t.segment;
    requests = requests;
    pages = readable_pages found requests;
    outcome = outcome_of_stop found (first_stop found requests);
    format = m.page_format;
    parts = Some parts_of_run;
    closing = [];
    text = listing m.page_format (readable_pages found requests);
  }

  abbrev run : SynchronousRun
  run = run_over blocks

  blocks_are : blocks ≡ request_list (relation_block_count t) map_page c
  blocks_are = request_blocks (relation_block_count t) map_page c

  by_parts : {z : ℕ} (o : Outcome) (sums : PageSums) (w : List ℕ)
      → IsListedRun (Some t) z n c b a o sums w
      → RunWrites run b.written a.written o
  by_parts Done sums w ran =
      let lists = (ran.is_output refl).lists in
      let end = lists.answer.answers.endings.0 in (
        done_at found (first_stop found blocks) end.1,
        SinkGrew-same b.written a.written _ _ (text_all m t parts_of_run b a Done w lists end.0)
            lists.output_grew,
      )
  by_parts (Invalid r k) sums w ran =
      let lists = (ran.is_output refl).lists in
      let end = lists.answer.answers.endings.0 in
      let stop = stop_here m t parts_of_run b a (Invalid r k) w lists (request r k)
      (lists.named_block_is (request r k) refl) end.0 in (
        ap (outcome_of_stop found) stop
            ∙ invalid_by (found r k) r k (sym (ap (stop_ending found) stop) ∙ end.1),
        SinkGrew-same b.written a.written _ _
            (text_all m t parts_of_run b a (Invalid r k) w lists end.0) lists.output_grew,
      )
  by_parts (Missing r k) sums w ran =
      let lists = (ran.is_output refl).lists in
      let end = lists.answer.answers.endings.0 in
      let stop = stop_here m t parts_of_run b a (Missing r k) w lists (request r k)
      (lists.named_block_is (request r k) refl) end.0 in (
        ap (outcome_of_stop found) stop
            ∙ missing_by (found r k) r k (sym (ap (stop_ending found) stop) ∙ end.1),
        SinkGrew-same b.written a.written _ _
            (text_all m t parts_of_run b a (Missing r k) w lists end.0) lists.output_grew,
      )
  by_parts (Unread r k) sums w ran =
      let lists = (ran.is_output refl).lists in
      cut_at m t parts_of_run b a (Unread r k) w lists r k (lists.named_block_is (request r k) refl)
      lists.output_grew
      run refl refl refl
  by_parts CannotWrite sums w ran =
      let lists = (ran.is_output refl).lists in
      text_begins m t parts_of_run b a CannotWrite w lists lists.output_grew
  by_parts NoMemory sums w ran =
      let lists = (ran.is_output refl).lists in
      text_begins m t parts_of_run b a NoMemory w lists lists.output_grew
  by_parts FaultsFound sums w ran =
      absurd (let ends = (ran.is_output refl).lists.ends_listing in cc)
  by_parts _ sums w ran = untouched_same b a (ran.output_same refl).0

  pub writes : {z : ℕ} (o : Outcome) (sums : PageSums) (w : List ℕ)
      → IsListedRun (Some t) z n c b a o sums w → RunWrites (listed_run t c) b.written a.written o
  writes o sums w ran =
      let P : List Request → Type 0 = λ l. RunWrites (run_over l) b.written a.written o in
      subst P blocks_are (by_parts o sums w ran)

  -- and what it has warned of
  warned_by_parts : {z : ℕ} (o : Outcome) (sums : PageSums) (w : List ℕ)
      → IsListedRun (Some t) z n c b a o sums w
      → IsWarned run b.written a.written o w
  unfolding cut_at
  warned_by_parts Done sums w ran =
      let lists = (ran.is_output refl).lists in
      warned_all m t parts_of_run b a Done w lists (lists.all refl)
      lists.answer.answers.endings.0.0
  warned_by_parts (Invalid r k) sums w ran =
      let lists = (ran.is_output refl).lists in
      warned_all m t parts_of_run b a (Invalid r k) w lists (lists.all refl)
      lists.answer.answers.endings.0.0
  warned_by_parts (Missing r k) sums w ran =
      let lists = (ran.is_output refl).lists in
      warned_all m t parts_of_run b a (Missing r k) w lists (lists.all refl)
      lists.answer.answers.endings.0.0
  warned_by_parts (Unread r k) sums w ran =
      let lists = (ran.is_output refl).lists in (
        cut_at m t parts_of_run b a (Unread r k) w lists r k (lists.named_block_is (request r k) refl)
            lists.output_grew run refl refl refl,
        warned_first m t parts_of_run b a (Unread r k) w lists (lists.all refl),
      )
  warned_by_parts CannotWrite sums w ran =
      warned_up_to m t parts_of_run b a CannotWrite w (ran.is_output refl).lists run refl refl refl
  warned_by_parts NoMemory sums w ran =
      warned_up_to m t parts_of_run b a NoMemory w (ran.is_output refl).lists run refl refl refl
  warned_by_parts FaultsFound sums w ran =
      absurd (let ends = (ran.is_output refl).lists.ends_listing in cc)
  warned_by_parts _ sums w ran = (ran.output_same refl).1

  pub is_warned : {z : ℕ} (o : Outcome) (sums : PageSums) (w : List ℕ)
      → IsListedRun (Some t) z n c b a o sums w → IsWarned (listed_run t c) b.written a.written o w
  is_warned o sums w ran =
      let P : List Request → Type 0 = λ l. IsWarned (run_over l) b.written a.written o w in
      subst P blocks_are (warned_by_parts o sums w ran)

  -- where all was listed without a map, these are the sums of the pages
  pub has_sums : {z : ℕ} (sums : PageSums) (w : List ℕ) → IsListedRun (Some t) z n c b a Done sums w
      → c.map ≡ None
      → sums ≡ saturated_sums (sums_of (listed_run t c).format (listed_run t c).pages)
  has_sums sums w ran none =
      let listed = ran.is_output refl in
      let lists = listed.lists in
      let P : List Request → Type 0 =
      λ l. sums ≡ saturated_sums (sums_of m.page_format (readable_pages found l)) in
      subst P blocks_are (listed.sums_are none
      ∙ ap saturated_sums
      (sums_all m t parts_of_run b a Done w lists lists.answer.answers.endings.0.0))
