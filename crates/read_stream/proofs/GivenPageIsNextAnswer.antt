-- What a stream has at hand is the next answer.
use Rattle.std.specs.Prelude.{Bool}
use Rattle.std.proofs.Common.{◌≡◌, ℕ, ◌+◌, ◌-◌, List, [], ◌∷◌, ◌++◌, map, drop, true, refl}
use Rattle.std.proofs.Common.{subst, arith}
use Rattle.std.specs.Prelude.{None, Option, IfSome, is_some, slice_get}
use Rattle.page_check.specs.declared.world.World.{Ghosts as WorldGhosts}
use Rattle.page_check.specs.declared.rules.PageMark.TheVariants.{Valid}
use Rattle.page_check.specs.PageBytes.{IsPage}
use Rattle.page_check.specs.Told.{Told}
use Rattle.page_check.specs.IsAnswer.{IfPage, Next as Said, Stop as SaidStop}
use Rattle.aio_word.specs.declared.Known.{Known}
use Rattle.read_callbacks.specs.GoodPages.{IsGood}
use Rattle.aio_callback.specs.ReadIoView.{record_page, record_mark}
use Rattle.buf_pool.specs.LookupAnswers.{pinned_page}
use Rattle.read_stream.specs.declared.at_hand.AtHand.{AtHand}
use Rattle.read_stream.specs.declared.at_hand.AtHand.TheVariants as at_hand
use Rattle.read_stream.specs.declared.parts.Part.TheVariants as part
use Rattle.read_stream.specs.declared.queue.QueuedBlock.{QueuedBlock}
use Rattle.read_stream.specs.declared.reads.EndedRead.{EndedRead}
use Rattle.read_stream.specs.declared.stream.ReadStream.{ReadStream}
use Rattle.stream_answer.specs.StreamAnswers.{stream_entry, page_answer, pages_given}
use Rattle.read_stream.specs.FailedReads.{MayBeUnread}
use Rattle.read_stream.specs.StreamViews.{answered_stop}
use Rattle.read_stream.specs.QueuedBlocks.{HasInFront, source_item}
use Rattle.read_stream.specs.AtHand.{HasAnswer, IsNextOfOldest, IsRightAtHand, answer_with}
use Rattle.read_stream.specs.AtHand.{ending_at_hand, lent_count}
use Rattle.read_stream.specs.StreamState.{HasRecords, IsBetweenCalls, answer_at_hand}
use Rattle.read_stream.specs.StreamState.{entries_at_open, list_at_open}
use Rattle.read_stream.proofs.PartIsNextAnswer.{page_is_next}
use Rattle.read_stream.specs.StreamState.{returned_count}
use Rattle.read_stream.proofs.ListPositions.{here-at, mapped-at}
use Rattle.read_stream.proofs.NextAnswerCases.{ReadableUpTo, next-page}
use Rattle.read_stream.proofs.StopIsNextAnswer.{HasPosition, MayAnswer, left_of, oldest_taken}

module _ {W S P : Type 0} (left : S → List (ℕ × P)) (world : WorldGhosts W) (p : Known)
    (s : ReadStream W S P) where
  abbrev queue : List (QueuedBlock P)
  queue = s.desk.now.blocks.queue.items

  abbrev rest : List (ℕ × P)
  rest = map source_item (drop 1 queue) ++ left s.source

  -- what would be answered with this at hand
  abbrev said : AtHand W → Said P
  said h = answer_with s.scope.relation h (slice_get queue 0)
      (slice_get s.desk.now.reads.ended.items 0)

  abbrev IsRight : AtHand W → Type 0
  IsRight h = IsRightAtHand world.told s.scope.rules.checksums s.scope.relation s.desk.now.reads.ended.items queue h

  -- an answer that gives a page may be answered, and the blocks up to it can be read
  abbrev IsNextPage : Said P → Type 0
  IsNextPage x = (IfPage x IsPage → MayAnswer left world p s x)
      × ReadableUpTo s.scope.rules world.told (returned_count left s + 1)
      (entries_at_open left world s)

  pinned-next : (page : List ℕ) (block : ℕ) (f : HasInFront queue block [])
      → IsGood world.told s.scope.rules.checksums s.scope.relation block page → HasPosition left world s
      → IsNextPage (page_answer s.scope.relation block f.asked.per_buffer_data page Valid)
  pinned-next page block f good at =
      let item : ℕ × P = (block, f.asked.per_buffer_data) in
      next-page s.scope.rules (MayBeUnread s.scope.was.value p) (entries_at_open left world s)
      (returned_count left s) (stream_entry s.scope.relation item)
      (mapped-at (stream_entry s.scope.relation) (list_at_open left world s) _ item
      (here-at (list_at_open left world s) _ item rest
      (left_of left world s block [] f at)))
      world.told page Valid at.readable tt good

  lent-next : (block : ℕ)
      (o : IsNextOfOldest world.told s.desk.now.reads.ended.items queue block part.Page)
      → HasRecords world s.scope p s.desk.now.reads → HasPosition left world s
      → IsNextPage (page_answer s.scope.relation block o.in_front.asked.per_buffer_data
      (record_page o.oldest.io o.oldest.given) (record_mark o.oldest.io o.oldest.given))
  lent-next block o records at =
      let io = o.oldest.io in
      let is_block = o.is_block in
      let place : block - io.first ≡ o.oldest.given = omega arith in
      subst (λ (k : ℕ). IsNextPage (page_answer s.scope.relation block
      o.in_front.asked.per_buffer_data (record_page io k) (record_mark io k))) place
      (page_is_next s.scope world (list_at_open left world s) (returned_count left s) block
      o.in_front.asked.per_buffer_data rest
      (left_of left world s block (block ∷ []) o.in_front at) at.readable p io
      (oldest_taken left world p s block part.Page records o) o.covers o.part)

  page-shown : (h : AtHand W) → IsRight h → ending_at_hand h ≡ None → HasAnswer h
      → HasRecords world s.scope p s.desk.now.reads → HasPosition left world s
      → IsNextPage (said h)
  page-shown at_hand.Nothing right going has records at = absurd has
  page-shown (at_hand.Pinned pin) (block, f, good) going has records at =
      rw (f.first, f.is_block) (pinned-next (pinned_page pin) block f good at)
  page-shown at_hand.Lent (block, o) going has records at =
      rw (o.in_front.first, o.first, o.in_front.is_block) (lent-next block o records at)
  page-shown (at_hand.Stopped block why) right going has records at = absurd (cc)
  page-shown at_hand.Ended right going has records at = absurd (cc)

  -- the page at hand is what may be answered next
  pub page_answered : IsRight s.at_hand → ending_at_hand s.at_hand ≡ None → HasAnswer s.at_hand
      → HasRecords world s.scope p s.desk.now.reads → HasPosition left world s
      → IsNextPage (answer_at_hand s)
  page_answered = page-shown s.at_hand

  shown : (h : AtHand W) → IsRight h → (ending_at_hand h ≡ None → HasPosition left world s)
      → IfSome (ending_at_hand h) (λ e. MayAnswer left world p s (SaidStop e)) → HasAnswer h
      → HasRecords world s.scope p s.desk.now.reads → IfPage (said h) IsPage
      → MayAnswer left world p s (said h)
  shown at_hand.Nothing right at stop has records is = absurd has
  shown (at_hand.Pinned pin) right at stop has records is =
      (page-shown (at_hand.Pinned pin) right refl has records (at refl)).0 is
  shown at_hand.Lent right at stop has records is =
      (page-shown at_hand.Lent right refl has records (at refl)).0 is
  shown (at_hand.Stopped block why) right at stop has records is = stop
  shown at_hand.Ended right at stop has records is = stop

  -- what is at hand between two calls is what may be answered next
  pub between_answered : IsBetweenCalls left world p s → HasAnswer s.at_hand
      → IfPage (answer_at_hand s) IsPage → MayAnswer left world p s (answer_at_hand s)
  between_answered b has is = shown s.at_hand b.right (λ going. (b.running going).position)
      b.stop_answer has b.invariant.records is

-- the answer gives as many pages as are lent, and ends as the stream has ended
abbrev pub SaysAtHand : {W P : Type 0} → AtHand W → Said P → Type 0
SaysAtHand h x = (pages_given x ≡ lent_count h) × (ending_at_hand h ≡ answered_stop x)

module _ {W P : Type 0} where
  pub pages_answered : (told : Option Told) (sums : Bool) (relation : ℕ) (ended : List EndedRead)
      (queue : List (QueuedBlock P)) (h : AtHand W) → IsRightAtHand told sums relation ended queue h
      → HasAnswer h
      → SaysAtHand h (answer_with relation h (slice_get queue 0) (slice_get ended 0))
  pages_answered told sums relation ended queue at_hand.Nothing right has = absurd has
  pages_answered told sums relation ended queue (at_hand.Pinned pin) (block, f, good) has =
      rw f.first (refl, refl)
  pages_answered told sums relation ended queue at_hand.Lent (block, o) has =
      rw (o.in_front.first, o.first) (refl, refl)
  pages_answered told sums relation ended queue (at_hand.Stopped block why) right has = (refl, refl)
  pages_answered told sums relation ended queue at_hand.Ended right has = (refl, refl)

-- where the stream has ended, something was answered, and no page is lent
pub ended_answers : {W : Type 0} (h : AtHand W) → true ≡ is_some (ending_at_hand h)
    → HasAnswer h × (lent_count h ≡ 0)
ended_answers at_hand.Nothing ended = absurd (cc)
ended_answers (at_hand.Pinned pin) ended = absurd (cc)
ended_answers at_hand.Lent ended = absurd (cc)
ended_answers (at_hand.Stopped block why) ended = (tt, refl)
ended_answers at_hand.Ended ended = (tt, refl)
