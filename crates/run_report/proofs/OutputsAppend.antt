-- Parts that were listed one after the other.
use Rattle.std.proofs.Common.{◌≡◌, ◌≢◌, ◌≤◌, ◌+◌, ℕ, List, [], ◌++◌, length, take, refl, sym, ap}
use Rattle.std.proofs.Common.{◌∙◌, subst, arith, length-append, inr}
use Rattle.std.specs.Prelude.{Option, Some, None, slice_get, ⊤}
use Rattle.std.proofs.Math.Seq.{take-append-add}
use Rattle.std.proofs.lemmas.List.{take_all}
use Rattle.page_check.specs.Told.{Told}
use Rattle.page_check.specs.SynchronousAnswer.{Ending, End, reading_of}
use Rattle.page_check.specs.SynchronousAnswer.{Reading}
use Rattle.page_check.proofs.AnswersInOrder.{answered_none, slice_get_front, slice_get_back}
use Rattle.page_check.proofs.AnswersOfLists.{length_whole}
use Rattle.page_check.proofs.AnswersOfBlocks.{answered_no_block}
use Rattle.page_check.specs.IsAnswer.{IsAnswer}
use Rattle.heap_scan.specs.Job.{IsJobAnswer, endings_of}
use Rattle.heap_scan.specs.Listing.{PageFormat, listing}
use Rattle.heap_scan.specs.Sums.{sums_joined, no_sums, sums_of}
use Rattle.heap_scan.specs.declared.sums.PageSums.{PageSums}
use Rattle.heap_scan.specs.Warnings.{warnings_of}
use Rattle.heap_scan.proofs.Jobs.{job_append, job_more, warnings-append, IsEarly}
use Rattle.heap_scan.proofs.SumsOverPages.{sums_of-none}
use Rattle.aio_disk.specs.Counts.{CountRose}
use Rattle.aio_disk.specs.Sink.{SinkGrew}
use Rattle.request_list.specs.RequestList.{Request, Page, Part, blocks_of_parts}
use Rattle.run_report.specs.Outcomes.{outcome_ending}
use Rattle.run_report.specs.Output.{IsOutput, ListFormat, OutputGrew, WriteFaultsCounted}
use Rattle.run_report.specs.declared.report.Outcome.{Outcome}
use Rattle.run_report.specs.declared.report.Outcome.TheVariants.{Done, Invalid, NoMemory, Missing}
use Rattle.run_report.specs.declared.report.Outcome.TheVariants.{Unread, CannotWrite}
use Rattle.run_report.proofs.CutsInParts.{cut_behind, cut_more, stopped_by, whole_behind}
use Rattle.request_list.proofs.PartsOfRequests.{blocks-append}
use Rattle.run_report.proofs.SinkTextsAppend.{SinkGrew-nothing, SinkGrew-append, SinkGrew-same}
use Rattle.run_report.proofs.SinkTextsAppend.{SinkGrewByPrefix-nothing, SinkGrewByPrefix-append}

pub no_listing : (format : PageFormat) → listing format (let none : List Page = [] in none) ≡ []
unfolding listing
no_listing format = refl

pub no_pages_sums : (format : PageFormat) → sums_of format (let none : List Page = [] in none) ≡ no_sums
no_pages_sums format = sums_of-none (Unit {0}) format

pub no_warnings : warnings_of (let none : List Page = [] in none) ≡ []
unfolding warnings_of
no_warnings = refl

-- no blocks have no pages
pub no_answer : (format : PageFormat) (found : Reading)
    → IsJobAnswer format found (λ (e : Request). ⊤) [] [] [] no_sums (Some End)
no_answer format found = record {
  pages = [];
  text_is = sym (no_listing format);
  warnings_are = sym no_warnings;
  sums_are = sym (no_pages_sums format);
  answers = answered_no_block found (λ _. ⊤);
}

-- no page was listed
pub listed_none : (format : PageFormat) (s : Option (List ℕ))
    → SinkGrew s s (listing format (let none : List Page = [] in none))
listed_none format s = SinkGrew-same s s [] _ (sym (no_listing format)) (SinkGrew-nothing s)

-- no parts
unfoldable pub lists_none : (m : ListFormat) (told : Option Told) (s : Option (List ℕ))
    → IsOutput m told [] s s Done []
unfolding no_answer
lists_none m told s = record {
  ends_listing = refl;
  text = [];
  all_warnings = [];
  sums = no_sums;
  answer = no_answer m.page_format (reading_of m.rules told);
  named_block_is = λ e is. absurd (cc);
  output_grew = SinkGrew-nothing s;
  whole = 0;
  pages_within = omega arith;
  all = λ _. refl;
  stopped_behind = λ is. absurd (cc);
  warnings_are = sym no_warnings;
  no_warnings = λ _. refl;
}

pub OutputGrew-append : (o : Outcome) (b m a : Option (List ℕ)) (xs ys : List ℕ) → SinkGrew b m xs
    → OutputGrew o m a ys → OutputGrew o b a (xs ++ ys)
OutputGrew-append CannotWrite b m a xs ys first second = SinkGrewByPrefix-append b m a xs ys first
    second
OutputGrew-append NoMemory b m a xs ys first second =
    SinkGrewByPrefix-append b m a xs ys first second
OutputGrew-append _ b m a xs ys first second = SinkGrew-append b m a xs ys first second

-- the same answer, where the blocks are known by another list
abbrev pub with_blocks : (m : ListFormat) (told : Option Told) (xs ys : List Request)
    (text warnings : List ℕ) (sums : PageSums) (end : Option Ending) → xs ≡ ys
    → IsJobAnswer m.page_format (reading_of m.rules told) (λ _. ⊤) xs text warnings sums end
    → IsJobAnswer m.page_format (reading_of m.rules told) (λ _. ⊤) ys text warnings sums end
with_blocks m told xs ys text warnings sums end same answer =
    let P : List Request → Type 0 = λ l. IsAnswer (reading_of m.rules told) (λ _. ⊤) l
    (record { pages = answer.pages; endings = endings_of end }) in record {
      pages = answer.pages;
      text_is = answer.text_is;
      warnings_are = answer.warnings_are;
      sums_are = answer.sums_are;
      answers = subst P same answer.answers;
    }

-- the warnings of pages that were all listed whole
module _ (m : ListFormat) (told : Option Told) (parts : List Part) (b a : Option (List ℕ))
    (o : Outcome) (w : List ℕ) (lists : IsOutput m told parts b a o w) where
  pub all_warned : lists.whole ≡ length lists.answer.pages → w ≡ warnings_of lists.answer.pages
  all_warned all =
      lists.warnings_are ∙ ap (λ (k : ℕ). warnings_of (take k lists.answer.pages)) all
      ∙ ap warnings_of (take_all (length lists.answer.pages) lists.answer.pages (omega arith))

-- some parts to their end, and then some more
unfoldable pub lists_append : (m : ListFormat) (told : Option Told) (xs ys : List Part)
    (b between a : Option (List ℕ)) (o : Outcome) (v w : List ℕ)
    → IsOutput m told xs b between Done v → IsOutput m told ys between a o w
    → IsOutput m told (xs ++ ys) b a o (v ++ w)
unfolding job_append
lists_append m told xs ys b between a o v w front back =
    let format = m.page_format in
    let found = reading_of m.rules told in
    let texts : List Page → List ℕ = listing format in
    let ps = front.answer.pages in
    let qs = back.answer.pages in
    let n = length ps in
    let size : length (ps ++ qs) ≡ n + length qs = length-append ps qs in
    let us = blocks_of_parts xs in
    let vs = blocks_of_parts ys in
    let both = blocks-append xs ys in
    let all : n ≡ length us = length_whole found us ps front.answer.answers.endings.0 in
    let among = back.pages_within in
    let grew = SinkGrew-same b between _ _ front.answer.text_is front.output_grew in
    let joined = job_append format found (λ _. ⊤) us vs front.text back.text front.all_warnings
    back.all_warnings front.sums back.sums (outcome_ending o) front.answer back.answer in
    let taken : take (n + back.whole) (ps ++ qs) ≡ ps ++ take back.whole qs =
    take-append-add ps qs back.whole in record {
      ends_listing = back.ends_listing;
      text = front.text ++ back.text;
      all_warnings = front.all_warnings ++ back.all_warnings;
      sums = sums_joined front.sums back.sums;
      answer = with_blocks m told (us ++ vs) (blocks_of_parts (xs ++ ys)) _ _ _ _ (sym both)
          joined;
      named_block_is = λ e is. (
          ap (λ (l : List Request). slice_get l (length (ps ++ qs))) both
          ∙ ap (slice_get (us ++ vs)) (size ∙ ap (λ (i : ℕ). i + length qs) all)
          ∙ slice_get_back us vs (length qs) ∙ back.named_block_is e is);
      output_grew =
          OutputGrew-append o b between a front.text back.text front.output_grew back.output_grew;
      whole = n + back.whole;
      pages_within = omega (arith, size);
      all = λ is. (let every = back.all is in omega (arith, size));
      stopped_behind = λ is. stopped_by format format ys (xs ++ ys) qs (ps ++ qs) between b a a o
          back.whole (n + back.whole) (cut_behind format xs ys ps qs b between a back.whole all
          grew)
          (whole_behind format xs ys ps qs b between a back.whole all grew) (back.stopped_behind is);
      warnings_are =
          ap (λ (l : List ℕ). l ++ w) (all_warned m told xs b between Done v front (front.all refl))
          ∙ ap (λ (l : List ℕ). warnings_of ps ++ l) back.warnings_are
          ∙ sym (warnings-append ps (take back.whole qs)) ∙ ap warnings_of (sym taken);
      no_warnings = λ off. (
          ap (λ (l : List ℕ). l ++ w) (front.no_warnings off) ∙ back.no_warnings off);
    }

none_early : IsEarly None
none_early = λ k d below. absurd (omega arith)

one_early : (end : Ending) → end ≢ End → IsEarly (Some end)
one_early end early = λ k d below. (let first : k ≡ 0 = omega arith in rw first early)

pub early : (o : Outcome) → o ≢ Done → IsEarly (outcome_ending o)
early Done stops = absurd (stops refl)
early (Invalid r b) stops = one_early _ (λ e. cc)
early (Missing r b) stops = one_early _ (λ e. cc)
early (Unread r b) stops = one_early _ (λ e. cc)
early _ stops = none_early

-- listing stopped, whatever is asked for behind
unfoldable pub lists_more : (m : ListFormat) (told : Option Told) (xs ys : List Part)
    (b a : Option (List ℕ)) (o : Outcome) (w : List ℕ)
    → o ≢ Done → IsOutput m told xs b a o w → IsOutput m told (xs ++ ys) b a o w
unfolding job_more
lists_more m told xs ys b a o w stops front =
    let us = blocks_of_parts xs in
    let vs = blocks_of_parts ys in
    let both = blocks-append xs ys in
    let longer = job_more m.page_format (reading_of m.rules told) (λ _. ⊤) us vs front.text
    front.all_warnings front.sums (outcome_ending o) (early o stops) front.answer in
    let pages = front.answer.pages in record {
      ends_listing = front.ends_listing;
      text = front.text;
      all_warnings = front.all_warnings;
      sums = front.sums;
      answer = with_blocks m told (us ++ vs) (blocks_of_parts (xs ++ ys)) _ _ _ _ (sym both)
          longer;
      named_block_is = λ e is. (ap (λ (l : List Request). slice_get l (length pages)) both
          ∙ slice_get_front us vs (length pages) e (front.named_block_is e is));
      output_grew = front.output_grew;
      whole = front.whole;
      pages_within = front.pages_within;
      all = front.all;
      stopped_behind = λ is. stopped_by m.page_format m.page_format xs (xs ++ ys) pages pages b b a a o front.whole
          front.whole (cut_more m.page_format xs ys pages b a front.whole) (λ grew. grew)
          (front.stopped_behind is);
      warnings_are = front.warnings_are;
      no_warnings = front.no_warnings;
    }

pub lists_same : (m : ListFormat) (told : Option Told) (xs ys : List Part)
    (b a : Option (List ℕ)) (o : Outcome) (w : List ℕ)
    → xs ≡ ys → IsOutput m told xs b a o w → IsOutput m told ys b a o w
lists_same m told xs ys b a o w same lists =
    let P : List Part → Type 0 = λ l. IsOutput m told l b a o w in subst P same lists

-- there was no memory before a page was given
unfoldable pub lists_nothing : (m : ListFormat) (told : Option Told) (xs : List Part) (s : Option (List ℕ))
    → IsOutput m told xs s s NoMemory []
lists_nothing m told xs s = record {
  ends_listing = refl;
  text = [];
  all_warnings = [];
  sums = no_sums;
  answer = record {
    pages = [];
    text_is = sym (no_listing m.page_format);
    warnings_are = sym no_warnings;
    sums_are = sym (no_pages_sums m.page_format);
    answers = answered_none (reading_of m.rules told) (λ _. ⊤) (blocks_of_parts xs);
  };
  named_block_is = λ e is. absurd (cc);
  output_grew = SinkGrewByPrefix-nothing s s [] refl;
  whole = 0;
  pages_within = omega arith;
  all = λ is. absurd (cc);
  stopped_behind = λ is. inr (refl, listed_none m.page_format s);
  warnings_are = sym no_warnings;
  no_warnings = λ _. refl;
}

-- faults of writes that come one after the other
rose_later : (before middle now : ℕ) → before ≤ middle → CountRose middle now → CountRose before now
rose_later before middle now first second = omega arith

pub written_then : (before middle now : ℕ) (o : Outcome) → before ≤ middle
    → WriteFaultsCounted middle now o → WriteFaultsCounted before now o
written_then before middle now o first second = record {
  later = omega (arith, second.later);
  cannot_write = λ is. rose_later before middle now first (second.cannot_write is);
}
