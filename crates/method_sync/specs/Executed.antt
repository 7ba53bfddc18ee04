-- What a runner does to a claimed read.
use Rattle.std.specs.Prelude.{◌≡◌, ℕ, List, [], ◌∷◌, Option}
use Rattle.page_check.specs.Told.{Told}
use Rattle.aio_disk.specs.Counts.{CountRose}
use Rattle.aio_word.specs.declared.Class.TheVariants.{Failed}
use Rattle.aio_word.specs.declared.Known.{Known}
use Rattle.aio_word.specs.declared.Kind.TheVariants as kind
use Rattle.aio_word.specs.declared.WaitRef.{WaitRef}
use Rattle.aio_word.specs.Tokens.{AppendsMarks, make_mark}
use Rattle.aio_callback.specs.ReadIoView.{ReadIoView, IsCompletedRead, record_aim}
use Rattle.read_callbacks.specs.Finishes.{Finish, FinishesGrew}
use Rattle.aio_callback.specs.Finishes.{all_finishes, record_reference}

-- the read of this aim was completed as some record says: the actor made the Io mark with the
-- record's class and the Shared mark, and nothing else; the places were told each block of it; and
-- it failed only where the disk's count of faults rose
pub record IsExecutedAs (told : Option Told) (t : WaitRef) (aim : List ℕ) (p q : Known)
    (before after : Option (List Finish)) (faults faults' : ℕ) : Type 0 where
  pub read_io : ReadIoView
  pub aim_is : record_aim read_io ≡ aim
  pub reference_is : record_reference read_io ≡ t
  pub completed_read : IsCompletedRead told read_io
  pub marks_grow : AppendsMarks p q
      (make_mark t (kind.Io read_io.label.ended) ∷ make_mark t kind.Shared ∷ [])
  pub finishes_grow : FinishesGrew before after (all_finishes read_io)
  pub failure_counted : read_io.label.ended ≡ Failed → CountRose faults faults'
