-- Outputs over contents that are told: their pages are the first of synchronous reads.
use Rattle.std.proofs.Common.{◌≡◌, ℕ, ◌≤◌, List, ◌++◌, length, take, sym, ap, ◌∙◌, arith}
use Rattle.std.proofs.Common.{length-append, subst, true, inl}
use Rattle.std.specs.Prelude.{Some, slice_get}
use Rattle.std.proofs.Math.Seq.{take-append_seam}
use Rattle.std.proofs.lemmas.List.{take-append-le}
use Rattle.page_check.specs.Told.{Told}
use Rattle.page_check.specs.SynchronousAnswer.{Reader, found_at}
use Rattle.page_check.specs.SynchronousAnswer.{readable_pages, first_stop}
use Rattle.page_check.proofs.AnswersOfLists.{all_given, first_stop-length}
use Rattle.heap_scan.specs.Listing.{PageFormat, listing}
use Rattle.heap_scan.specs.Sums.{sums_of}
use Rattle.heap_scan.specs.Warnings.{warnings_of}
use Rattle.heap_scan.proofs.Jobs.{listing-append}
use Rattle.aio_disk.specs.Sink.{SinkGrew, SinkGrewByPrefix}
use Rattle.run_report.specs.Outcomes.{is_output_cut_off}
use Rattle.request_list.specs.RequestList.{Request, Page, Part, blocks_of_parts, request}
use Rattle.run_report.specs.Output.{ObservedState, IsOutput, ListFormat, StoppedBehind}
use Rattle.run_report.specs.Run.{SynchronousRun, IsCutAt, IsWarnedUpTo}
use Rattle.run_report.specs.declared.report.Outcome.{Outcome}
use Rattle.run_report.proofs.SinkTextsAppend.{SinkGrew-same, SinkGrewByPrefix-same}
use Rattle.run_report.proofs.SinkTextsAppend.{SinkGrewByPrefix-more}
use Rattle.run_report.proofs.CutsInParts.{cut_of_more, stopped_by, whole_of_more}
use Rattle.run_report.proofs.OutputsAppend.{all_warned}

-- a run over contents that are told: its pages are the first of synchronous reads
module _ (m : ListFormat) (t : Told) (parts : List Part) (b a : ObservedState) (o : Outcome)
    (w : List ℕ) (lists : IsOutput m (Some t) parts b.written a.written o w) where
  abbrev requests : List Request
  requests = blocks_of_parts parts

  abbrev f : Reader
  f = found_at m.rules t

  abbrev texts : List Page → List ℕ
  texts pages = listing m.page_format pages

  abbrev all_pages : List Page
  all_pages = readable_pages f requests

  -- all of them
  pub text_all : length lists.answer.pages ≡ length all_pages → lists.text ≡ texts all_pages
  text_all all =
      lists.answer.text_is
      ∙ ap texts (sym (all_given f requests lists.answer.pages lists.answer.answers.first all))

  -- and reading stops behind them
  pub stop_here : (e : Request) → slice_get requests (length lists.answer.pages) ≡ Some e
      → length lists.answer.pages ≡ length all_pages → first_stop f requests ≡ Some e
  stop_here e here all =
      first_stop-length f requests ∙ ap (slice_get requests) (sym all) ∙ here

  -- so these are their sums
  pub sums_all : length lists.answer.pages ≡ length all_pages
      → lists.sums ≡ sums_of m.page_format all_pages
  sums_all all =
      lists.answer.sums_are
      ∙ ap (sums_of m.page_format)
      (sym (all_given f requests lists.answer.pages lists.answer.answers.first all))

  pub text_begins : SinkGrewByPrefix b.written a.written lists.text
      → SinkGrewByPrefix b.written a.written (texts all_pages)
  text_begins grew =
      let rest = lists.answer.answers.first.0 in
      let same : lists.text ++ texts rest ≡ texts all_pages =
      ap (λ (l : List ℕ). l ++ texts rest) lists.answer.text_is
      ∙ sym (listing-append m.page_format lists.answer.pages rest)
      ∙ ap texts (sym lists.answer.answers.first.1) in
      SinkGrewByPrefix-same b.written a.written _ _ same
      (SinkGrewByPrefix-more b.written a.written lists.text (texts rest) grew)

  first_pages : lists.answer.pages ≡ take (length lists.answer.pages) all_pages
  first_pages =
      sym (ap (take (length lists.answer.pages)) lists.answer.answers.first.1
      ∙ take-append_seam lists.answer.pages lists.answer.answers.first.0)

  pub text_first : lists.text ≡ texts (take (length lists.answer.pages) all_pages)
  text_first = lists.answer.text_is ∙ ap texts first_pages

  pub among : length lists.answer.pages ≤ length all_pages
  among =
      omega (
        arith,
        ap length lists.answer.answers.first.1,
        length-append lists.answer.pages lists.answer.answers.first.0,
      )

  -- the block of an outcome could not be read
  unfoldable pub cut_at : (r k : ℕ) → slice_get requests (length lists.answer.pages)
      ≡ Some (request r k)
      → SinkGrew b.written a.written lists.text
      → (run : SynchronousRun) → run.requests ≡ requests → run.pages ≡ all_pages
      → run.format ≡ m.page_format → IsCutAt run b.written a.written r k
  cut_at r k here grew run requests_are pages_are text_is =
      let P : List Request → Type 0 =
      λ l. slice_get l (length lists.answer.pages) ≡ Some (request r k) in
      let Q : List Page → Type 0 = λ l. length lists.answer.pages ≤ length l in
      let R : List Page → Type 0 = λ l. SinkGrew b.written a.written
      (texts (take (length lists.answer.pages) l)) in
      let T : PageFormat → Type 0 = λ format. SinkGrew b.written a.written
      (listing format (take (length lists.answer.pages) run.pages)) in record {
        k = length lists.answer.pages;
        named_block_is = subst P (sym requests_are) here;
        pages_within = subst Q (sym pages_are) among;
        output_grew = subst T (sym text_is)
            (subst R (sym pages_are) (SinkGrew-same b.written a.written _ _ text_first grew));
      }

  -- all of them were listed whole
  pub warned_all : lists.whole ≡ length lists.answer.pages
      → length lists.answer.pages ≡ length all_pages → w ≡ warnings_of all_pages
  warned_all whole all =
      all_warned m (Some t) parts b.written a.written o w lists whole
      ∙ ap warnings_of
      (sym (all_given f requests lists.answer.pages lists.answer.answers.first all))

  pub warned_first : lists.whole ≡ length lists.answer.pages
      → w ≡ warnings_of (take (length lists.answer.pages) all_pages)
  warned_first whole =
      all_warned m (Some t) parts b.written a.written o w lists whole
      ∙ ap warnings_of first_pages

  -- the first of them were listed whole
  whole_pages : take lists.whole lists.answer.pages ≡ take lists.whole all_pages
  whole_pages =
      sym (ap (take lists.whole) lists.answer.answers.first.1
      ∙ take-append-le lists.whole lists.answer.pages lists.answer.answers.first.0 lists.pages_within)

  -- the output stopped behind them
  stopped_among : is_output_cut_off o ≡ true
      → StoppedBehind m.page_format parts all_pages b.written a.written o lists.whole
  stopped_among is =
      let pages = lists.answer.pages in
      let rest = lists.answer.answers.first.0 in
      let P : List Page → Type 0 =
      λ l. StoppedBehind m.page_format parts l b.written a.written o lists.whole in
      subst P (sym lists.answer.answers.first.1)
      (stopped_by m.page_format m.page_format parts parts pages (pages ++ rest) b.written b.written
      a.written a.written o lists.whole lists.whole
      (cut_of_more m.page_format parts pages rest b.written a.written lists.whole lists.pages_within)
      (whole_of_more m.page_format parts pages rest b.written a.written lists.whole lists.pages_within)
      (lists.stopped_behind is))

  pub warned_up_to : (run : SynchronousRun) → run.pages ≡ all_pages → run.format ≡ m.page_format
      → is_output_cut_off o ≡ true → IsWarnedUpTo run parts b.written a.written o w
  warned_up_to run pages_are text_is is =
      let few = among in
      let within = lists.pages_within in
      let Q : List Page → Type 0 = λ l. lists.whole ≤ length l in
      let R : List Page → Type 0 = λ l. StoppedBehind m.page_format parts l b.written a.written o
      lists.whole in
      let T : PageFormat → Type 0 = λ format. StoppedBehind format parts run.pages b.written
      a.written o lists.whole in record {
        k = lists.whole;
        pages_within = subst Q (sym pages_are) (omega arith);
        stopped_behind = inl (subst T (sym text_is) (subst R (sym pages_are) (stopped_among is)));
        warnings_are = lists.warnings_are ∙ ap warnings_of
            (whole_pages ∙ ap (take lists.whole) (sym pages_are));
      }
