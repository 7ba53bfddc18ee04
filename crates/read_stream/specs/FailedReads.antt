-- The reads of a stream that have failed, and the entries that may be unread for them.
use Rattle.std.specs.Prelude.{◌≡◌, ℕ}
use Rattle.page_check.specs.SynchronousAnswer.{Entry}
use Rattle.aio_word.specs.declared.Class.TheVariants.{Failed}
use Rattle.aio_word.specs.declared.Kind.TheVariants as kind
use Rattle.aio_word.specs.declared.Known.{Known}
use Rattle.aio_word.specs.Events.{actor_count, make_mark}
use Rattle.aio_handle.specs.ContractViews.{ActorView}
use Rattle.aio_callback.specs.ReadIoView.{ReadIoView, record_aim}
use Rattle.aio_word.specs.Stands.{IsIn}
use Rattle.aio_callback.specs.Finishes.{record_reference}
use Rattle.read_stream.specs.ActorProgress.{MarkedSince}

-- a read of the stream that began at the block has failed: the actor took its result, which its
-- list says behind what it had when the stream was opened. In a table of one actor it was this
-- actor that executed it
pub record IsFailedRead (was : ActorView) (now : Known) (relation block : ℕ) (io : ReadIoView)
    : Type 0 where
  pub relation_is : io.relation ≡ relation
  pub first : io.first ≡ block
  pub class_is : io.label.ended ≡ Failed
  -- it was submitted to read the block
  pub was_submitted : IsIn (record_reference io, record_aim io) now.aims
  pub local_mark : MarkedSince was.known now (make_mark (record_reference io) (kind.Local Failed))
  pub io_mark_if_alone : actor_count was.known.config ≡ 1
      → MarkedSince was.known now (make_mark (record_reference io) (kind.Io Failed))

-- an entry that may be answered by Unread
abbrev pub MayBeUnread : {P : Type 0} → ActorView → Known → Entry P → Type 0
MayBeUnread was now e = (io : ReadIoView) × IsFailedRead was now e.relation e.block io
