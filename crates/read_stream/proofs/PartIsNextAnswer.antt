-- What a record that was taken in has for a block is what may be answered next.
use Rattle.std.proofs.Common.{◌≡◌, ℕ, ◌+◌, ◌-◌, ◌≤◌, Bool, List, ◌∷◌, drop, subst, arith}
use Rattle.std.specs.Prelude.{Some, IfSome, slice_get}
use Rattle.page_check.specs.declared.world.World.{Ghosts as WorldGhosts}
use Rattle.page_check.specs.PageBytes.{IsPage}
use Rattle.page_check.specs.Told.{relation_block_count}
use Rattle.page_check.specs.SynchronousAnswer.{Entry, reading_of}
use Rattle.page_check.specs.IsAnswer.{IsNext, Stop as SaidStop}
use Rattle.aio_word.specs.declared.Class.{Class}
use Rattle.aio_word.specs.declared.Class.TheVariants.{Failed}
use Rattle.aio_word.specs.declared.Kind.TheVariants as kind
use Rattle.aio_word.specs.declared.Known.{Known}
use Rattle.aio_word.specs.Events.{make_mark}
use Rattle.read_callbacks.specs.GoodPages.{IsGivenAs, HasBadPage}
use Rattle.aio_callback.specs.Finishes.{record_reference}
use Rattle.aio_callback.specs.ReadIoView.{ReadIoView, record_page, record_mark}
use Rattle.read_stream.specs.declared.parts.Part.TheVariants as part
use Rattle.read_stream.specs.declared.parts.Stop.{Stop}
use Rattle.read_stream.specs.declared.parts.Stop.TheVariants as stop
use Rattle.read_stream.specs.declared.scope.Scope.{Scope}
use Rattle.stream_answer.specs.StreamAnswers.{stream_entry, stream_entries}
use Rattle.stream_answer.specs.StreamAnswers.{page_answer}
use Rattle.read_stream.specs.FailedReads.{IsFailedRead, MayBeUnread}
use Rattle.read_stream.specs.StreamIos.{IsTakenIn, known_at_open}
use Rattle.read_stream.specs.AtHand.{stop_ending}
use Rattle.read_stream.specs.Parts.{CoversBlock, IsValidPart}
use Rattle.read_stream.specs.ActorProgress.{MarkedSince}
use Rattle.read_stream.proofs.ListPositions.{here-at, mapped-at}
use Rattle.read_stream.proofs.NextAnswerCases.{ReadableUpTo, next-page, next-invalid, next-past-end}
use Rattle.read_stream.proofs.NextAnswerCases.{next-unread}

-- a record of a failed read says so
pub failed_read : {W : Type 0} (c : Scope W) (world : WorldGhosts W) (p : Known)
    (io : ReadIoView) → IsTakenIn c world p io → (b : ℕ) → io.first ≡ b
    → io.label.ended ≡ Failed → IsFailedRead c.was.value p c.relation b io
failed_read c world p io taken b first failed = record {
  relation_is = taken.is_stream_record.relation;
  first = first;
  class_is = failed;
  was_submitted = taken.was_submitted;
  local_mark = subst (λ (z : Class). MarkedSince (known_at_open c) p
      (make_mark (record_reference io) (kind.Local z))) failed taken.local_mark;
  io_mark_if_alone = λ one. subst
      (λ (z : Class). MarkedSince (known_at_open c) p (make_mark (record_reference io) (kind.Io z)))
      failed (taken.io_mark_if_alone one);
}

module _ {W P : Type 0} (c : Scope W) (world : WorldGhosts W) (list : List (ℕ × P))
    (k b : ℕ) (info : P) (rest : List (ℕ × P)) (here : drop k list ≡ (b, info) ∷ rest)
    (far : ReadableUpTo c.rules world.told k (stream_entries c.relation list)) (p : Known)
    (io : ReadIoView) (taken : IsTakenIn c world p io) (has : CoversBlock io b) where
  abbrev e : Entry P
  e = stream_entry c.relation (b, info)

  at : slice_get (stream_entries c.relation list) k ≡ Some e
  at = mapped-at (stream_entry c.relation) list k (b, info) (here-at list k (b, info) rest here)

  given-page : IsValidPart world.told io b part.Page → IsGivenAs world.told c.rules.checksums c.relation b
      (record_page io (b - io.first)) (record_mark io (b - io.first))
  given-page is =
      let given = (taken.fits.ended taken.has_ended).good (b - io.first) is.0 in
      let (low, below) = has in
      let same : io.first + (b - io.first) ≡ b = omega arith in
      subst (λ (s : Bool). IsGivenAs world.told s c.relation b (record_page io (b - io.first))
      (record_mark io (b - io.first))) taken.is_stream_record.checksums
      (subst (λ (r : ℕ). IsGivenAs world.told io.checksums r b (record_page io (b - io.first))
      (record_mark io (b - io.first))) taken.is_stream_record.relation
      (subst (λ (n : ℕ). IsGivenAs world.told io.checksums io.relation n
      (record_page io (b - io.first)) (record_mark io (b - io.first))) same given))

  -- a page of the record
  pub page_is_next : IsValidPart world.told io b part.Page
      → (IsPage (record_page io (b - io.first)) → IsNext (reading_of c.rules world.told)
      (MayBeUnread c.was.value p) (stream_entries c.relation list)
      k (page_answer c.relation b info (record_page io (b - io.first))
      (record_mark io (b - io.first))))
      × ReadableUpTo c.rules world.told (k + 1) (stream_entries c.relation list)
  page_is_next is = next-page c.rules (MayBeUnread c.was.value p) (stream_entries c.relation list) k
      e at world.told (record_page io (b - io.first)) (record_mark io (b - io.first)) far
      (is.1 c.rules.damaged taken.is_stream_record.ids) (given-page is)

  maybe-unread : io.first ≡ b → io.label.ended ≡ Failed → MayBeUnread c.was.value p e
  maybe-unread first failed = (io, failed_read c world p io taken b first failed)

  -- what stops the stream at the block
  pub stop_is_next : (why : Stop) → IsValidPart world.told io b (part.Stop why)
      → IsNext (reading_of c.rules world.told) (MayBeUnread c.was.value p)
      (stream_entries c.relation list) k (SaidStop (stop_ending why b))
  stop_is_next stop.Invalid is =
      next-invalid c.rules (MayBeUnread c.was.value p) (stream_entries c.relation list) k e at
      world.told far (is.0 c.rules.damaged taken.is_stream_record.ids)
      (subst (λ (s : Bool). HasBadPage world.told s c.relation b) taken.is_stream_record.checksums
      (subst (λ (r : ℕ). HasBadPage world.told io.checksums r b) taken.is_stream_record.relation
      is.1))
  stop_is_next stop.Unread is =
      next-unread c.rules (MayBeUnread c.was.value p) (stream_entries c.relation list) k e at
      world.told (maybe-unread is.0 is.1)
  stop_is_next stop.PastEnd is =
      next-past-end c.rules (MayBeUnread c.was.value p) (stream_entries c.relation list) k e at
      world.told far
      (subst (λ (r : ℕ). IfSome world.told (λ t. relation_block_count t r ≤ b))
      taken.is_stream_record.relation is)
