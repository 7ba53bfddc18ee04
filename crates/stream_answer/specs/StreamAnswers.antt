-- What a stream answers, in the words of synchronous reads.
use Rattle.std.specs.Prelude.{ℕ, List, Option, Some, None, map}
use Rattle.page_check.specs.declared.rules.PageMark.{PageMark}
use Rattle.page_check.specs.declared.rules.PageMark.TheVariants.{Valid, Zeroed, Damaged}
use Rattle.page_check.specs.SynchronousAnswer.{Entry}
use Rattle.page_check.specs.SynchronousAnswer.{End as SaidEnd, Invalid as SaidInvalid}
use Rattle.page_check.specs.SynchronousAnswer.{PastEnd as SaidPastEnd, Unread as SaidUnread}
use Rattle.page_check.specs.IsAnswer.{Next as Said, Page as SaidPage, Stop as SaidStop}
use Rattle.stream_answer.specs.declared.answer.Next.{Next}
use Rattle.stream_answer.specs.declared.answer.Next.TheVariants as next

-- a block of the relation, with the caller's data
abbrev pub stream_entry : {P : Type 0} → ℕ → ℕ × P → Entry P
stream_entry relation x = record { relation = relation; block = x.0; per_buffer_data = x.1 }

-- the blocks of the relation that a source gives
abbrev pub stream_entries : {P : Type 0} → ℕ → List (ℕ × P) → List (Entry P)
stream_entries relation list = map (stream_entry relation) list

module _ {P : Type 0} where
  -- the page that was given for the block, with its mark
  abbrev pub page_answer : ℕ → ℕ → P → List ℕ → PageMark → Said P
  page_answer relation block info page mark = SaidPage (record {
    entry = stream_entry relation (block, info);
    page = page;
    mark = mark;
  })

  -- the answer, in the words of synchronous reads
  abbrev pub synchronous_answer : ℕ → Next P → Said P
  synchronous_answer relation (next.Page page block info) = page_answer relation block info.now
      page.now Valid
  synchronous_answer relation (next.Zeroed page block info) = page_answer relation block info.now
      page.now Zeroed
  synchronous_answer relation (next.Damaged page block info) = page_answer relation block info.now
      page.now Damaged
  synchronous_answer relation next.End = SaidStop SaidEnd
  synchronous_answer relation (next.Invalid block) = SaidStop (SaidInvalid block)
  synchronous_answer relation (next.Unread block) = SaidStop (SaidUnread block)
  synchronous_answer relation (next.PastEnd block) = SaidStop (SaidPastEnd block)

  -- how many pages the answer gives
  abbrev pub pages_given : Said P → ℕ
  pages_given (SaidPage given) = 1
  pages_given (SaidStop end) = 0

  -- the page that the answer gives, whatever its mark
  abbrev pub answer_page : Said P → Option (List ℕ)
  answer_page (SaidPage given) = Some given.page
  answer_page (SaidStop end) = None
