-- Records in the tests.
use Rattle.std.specs.Prelude.{◌≡◌, ℕ, true, None}
use Rattle.aio_word.specs.declared.Class.TheVariants.{Unended}
use Rattle.aio_callback.specs.ReadIoView.{ReadIoView}

-- aimed at so many blocks, with no answer
pub record IsPendingRead (blocks : ℕ) (r : ReadIoView) : Type 0 where
  pub aimed : r.aimed ≡ true
  pub some : r.count ≡ blocks
  pub unanswered : r.raw ≡ None
  pub unended : r.label.ended ≡ Unended
