-- What a stream has at hand, and what it answers of it.
use Rattle.std.specs.Prelude.{Bool}
use Rattle.std.specs.Prelude.{◌≡◌, ℕ, ◌-◌, List, [], ◌∷◌, Option, Some, None, slice_get, ⊤}
use Rattle.page_check.specs.Told.{Told}
use Rattle.page_check.specs.declared.rules.PageMark.TheVariants.{Valid}
use Rattle.page_check.specs.SynchronousAnswer.{Ending, End, Invalid, PastEnd, Unread}
use Rattle.page_check.specs.IsAnswer.{Next as Said, Stop as SaidStop}
use Rattle.aio_callback.specs.ReadIoView.{record_page, record_mark}
use Rattle.read_callbacks.specs.GoodPages.{IsGood}
use Rattle.buf_pool.specs.LookupAnswers.{pinned_page}
use Rattle.read_stream.specs.declared.at_hand.AtHand.{AtHand}
use Rattle.read_stream.specs.declared.at_hand.AtHand.TheVariants as at_hand
use Rattle.read_stream.specs.declared.parts.Part.{Part}
use Rattle.read_stream.specs.declared.parts.Part.TheVariants as part
use Rattle.read_stream.specs.declared.parts.Stop.{Stop}
use Rattle.read_stream.specs.declared.parts.Stop.TheVariants as stop
use Rattle.read_stream.specs.declared.queue.QueuedBlock.{QueuedBlock}
use Rattle.read_stream.specs.declared.reads.EndedRead.{EndedRead}
use Rattle.read_stream.specs.Parts.{CoversBlock, IsValidPart}
use Rattle.read_stream.specs.QueuedBlocks.{HasInFront}
use Rattle.read_stream.specs.StreamIos.{left_run}
use Rattle.stream_answer.specs.StreamAnswers.{page_answer}

abbrev pub stop_ending : Stop → ℕ → Ending
stop_ending stop.Invalid block = Invalid block
stop_ending stop.Unread block = Unread block
stop_ending stop.PastEnd block = PastEnd block

-- 1 where the oldest read has one page left
abbrev pub last_page : List EndedRead → ℕ
last_page [] = 0
last_page (e ∷ es) = 1 - ((left_run e).count - 1)

-- the block at the front is the next one of the oldest read, which has this for it
pub record IsNextOfOldest {P : Type 0} (told : Option Told) (ended : List EndedRead)
    (queue : List (QueuedBlock P)) (block : ℕ) (has : Part) : Type 0 where
  pub in_front : HasInFront queue block (block ∷ [])
  pub oldest : EndedRead
  pub first : slice_get ended 0 ≡ Some oldest
  pub is_block : (left_run oldest).first ≡ block
  pub covers : CoversBlock oldest.io block
  pub part : IsValidPart told oldest.io block has

module _ {W : Type 0} where
  -- how many pages are lent
  abbrev pub lent_count : AtHand W → ℕ
  lent_count at_hand.Nothing = 0
  lent_count (at_hand.Pinned pin) = 1
  lent_count at_hand.Lent = 1
  lent_count (at_hand.Stopped block why) = 0
  lent_count at_hand.Ended = 0

  -- how the stream has ended, if it has
  abbrev pub ending_at_hand : AtHand W → Option Ending
  ending_at_hand at_hand.Nothing = None
  ending_at_hand (at_hand.Pinned pin) = None
  ending_at_hand at_hand.Lent = None
  ending_at_hand (at_hand.Stopped block why) = Some (stop_ending why block)
  ending_at_hand at_hand.Ended = Some End

  -- something was answered
  abbrev pub HasAnswer : AtHand W → Type 0
  HasAnswer at_hand.Nothing = ⊥
  HasAnswer (at_hand.Pinned pin) = ⊤
  HasAnswer at_hand.Lent = ⊤
  HasAnswer (at_hand.Stopped block why) = ⊤
  HasAnswer at_hand.Ended = ⊤

  -- 1 where the record of the oldest read is free once its page is given back
  abbrev pub spare_at_hand : AtHand W → List EndedRead → ℕ
  spare_at_hand at_hand.Nothing ended = 0
  spare_at_hand (at_hand.Pinned pin) ended = 0
  spare_at_hand at_hand.Lent ended = last_page ended
  spare_at_hand (at_hand.Stopped block why) ended = 0
  spare_at_hand at_hand.Ended ended = 0

module _ {W P : Type 0} where
  -- it is right for the block at the front
  abbrev pub IsRightAtHand : Option Told → Bool → ℕ → List EndedRead → List (QueuedBlock P) → AtHand W
      → Type 0
  IsRightAtHand told checksums relation ended queue at_hand.Nothing = ⊤
  IsRightAtHand told checksums relation ended queue (at_hand.Pinned pin) = (block : ℕ)
      × HasInFront queue block [] × IsGood told checksums relation block (pinned_page pin)
  IsRightAtHand told checksums relation ended queue at_hand.Lent = (block : ℕ)
      × IsNextOfOldest told ended queue block part.Page
  IsRightAtHand told checksums relation ended queue (at_hand.Stopped block why) =
      IsNextOfOldest told ended queue block (part.Stop why)
  IsRightAtHand told checksums relation ended queue at_hand.Ended = ⊤

  -- the answer, in the words of synchronous reads: a page is that of the block at the front
  abbrev pub answer_with : ℕ → AtHand W → Option (QueuedBlock P) → Option EndedRead → Said P
  answer_with relation at_hand.Nothing asked oldest = SaidStop End
  answer_with relation (at_hand.Pinned pin) (Some a) oldest =
      page_answer relation a.block a.per_buffer_data (pinned_page pin) Valid
  answer_with relation (at_hand.Pinned pin) None oldest = SaidStop End
  answer_with relation at_hand.Lent (Some a) (Some e) = page_answer relation a.block
      a.per_buffer_data (record_page e.io e.given) (record_mark e.io e.given)
  answer_with relation at_hand.Lent (Some a) None = SaidStop End
  answer_with relation at_hand.Lent None oldest = SaidStop End
  answer_with relation (at_hand.Stopped block why) asked oldest = SaidStop (stop_ending why block)
  answer_with relation at_hand.Ended asked oldest = SaidStop End
