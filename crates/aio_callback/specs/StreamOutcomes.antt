-- What the owner of a read with the callbacks of a stream makes of it once it has ended.
use Rattle.std.specs.Prelude.{◌≡◌, ◌≢◌, ℕ, ◌+◌, ◌<◌, ◌≤◌, List, [], ◌∷◌}
use Rattle.std.specs.Prelude.{Option, IfSome, pos, take, count_by}
use Rattle.page_check.specs.Told.{Told, relation_block_count}
use Rattle.page_check.specs.declared.rules.DamagedPages.{DamagedPages}
use Rattle.page_check.specs.declared.rules.DamagedPages.TheVariants.{Refuse, Zero, Give}
use Rattle.aio_result.specs.declared.AioResult.{AioResult}
use Rattle.aio_result.specs.declared.Status.TheVariants.{Good, Partial, Warning, Error}
use Rattle.aio_word.specs.declared.Class.TheVariants as class
use Rattle.read_callbacks.specs.declared.chain.CallbackId.{CallbackId}
use Rattle.read_callbacks.specs.declared.chain.CallbackId.TheVariants.{File, Buffer, Count}
use Rattle.read_callbacks.specs.declared.chain.CallbackId.TheVariants.{ZeroBuffer, MarkBuffer}
use Rattle.read_callbacks.specs.declared.chain.Raw.TheVariants.{Read}
use Rattle.read_callbacks.specs.Chain.{result_of, natural_part, class_of, is_marked}
use Rattle.read_callbacks.specs.GoodPages.{HasBadPage}
use Rattle.aio_callback.specs.ReadIoView.{ReadIoView, number_of_id}

-- which callback checks the pages, by the rule on damaged ones
abbrev pub check_of : DamagedPages → CallbackId
check_of Refuse = Buffer
check_of Zero = ZeroBuffer
check_of Give = MarkBuffer

abbrev pub stream_ids : DamagedPages → List CallbackId
stream_ids damaged = Count ∷ check_of damaged ∷ File ∷ []

-- how many pages the owner gives
abbrev pub given_count : AioResult → ℕ
given_count p = natural_part p.result

-- how many of its first n pages are marked
abbrev pub marked_among : ReadIoView → ℕ → ℕ
marked_among r n = count_by is_marked (take n r.marks)

pub data IsStreamOutcome (damaged : DamagedPages) (told : Option Told) (r : ReadIoView) : Type 0 where
  -- all pages were read, and are good
  Whole : (r.result ≡ result_of 0 Good 0 (pos r.count)) → (r.label.ended ≡ class.Whole)
      → IsStreamOutcome damaged told r
  -- fewer pages were read than asked for, and are good
  Rest : (n : ℕ) → (r.result ≡ result_of 1 Partial 0 (pos n)) → 0 < n → n < r.count
      → (r.label.ended ≡ class.Short) → IsStreamOutcome damaged told r
  -- all pages were read, or fewer; k of them, at least one, were bad and are marked
  Warned : (k n : ℕ) → damaged ≢ Refuse → 0 < k → k ≡ marked_among r n
      → (r.result ≡ result_of (number_of_id (check_of damaged)) Warning k (pos n)) → 0 < n → n ≤ r.count
      → (r.label.ended ≡ class_of r.count (Read n)) → IsStreamOutcome damaged told r
  -- the page behind the first i is bad
  Invalid : (i : ℕ) → damaged ≡ Refuse → (r.result ≡ result_of 2 Error i (pos i)) → i < r.count
      → HasBadPage told r.checksums r.relation (r.first + i)
      → IsStreamOutcome damaged told r
  -- the read failed
  Unread : (r.result ≡ result_of 1 Error 1 (pos 0)) → (r.label.ended ≡ class.Failed)
      → IsStreamOutcome damaged told r
  -- the relation ends at or before the first block
  PastEnd : (r.result ≡ result_of 1 Error 2 (pos 0)) → (r.label.ended ≡ class.Short)
      → IfSome told (λ t. relation_block_count t r.relation ≤ r.first)
      → IsStreamOutcome damaged told r
