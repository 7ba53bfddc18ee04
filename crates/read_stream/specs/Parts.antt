-- What a record that was taken in has for one of its blocks.
use Rattle.std.specs.Prelude.{◌≡◌, ℕ, ◌-◌, ◌<◌, ◌≤◌, slice_get, Option, Some, IfSome}
use Rattle.page_check.specs.Told.{Told, relation_block_count}
use Rattle.page_check.specs.SynchronousAnswer.{AllowsMark}
use Rattle.page_check.specs.declared.rules.DamagedPages.{DamagedPages}
use Rattle.page_check.specs.declared.rules.DamagedPages.TheVariants.{Refuse}
use Rattle.aio_word.specs.declared.Class.TheVariants.{Failed}
use Rattle.aio_callback.specs.StreamOutcomes.{stream_ids}
use Rattle.read_callbacks.specs.Chain.{good_count}
use Rattle.read_callbacks.specs.GoodPages.{HasBadPage}
use Rattle.aio_callback.specs.ReadIoView.{ReadIoView, record_mark}
use Rattle.read_stream.specs.declared.parts.Part.{Part}
use Rattle.read_stream.specs.declared.parts.Part.TheVariants as part
use Rattle.read_stream.specs.declared.parts.Stop.TheVariants as stop
use Rattle.read_stream.specs.declared.reads.EndedRead.{EndedRead}
use Rattle.read_stream.specs.declared.reads.Reads.{Reads}
use Rattle.read_stream.specs.StreamIos.{left_run}

-- the record was to read the block
abbrev pub CoversBlock : ReadIoView → ℕ → Type 0
CoversBlock io block = (io.first ≤ block) × (block - io.first < io.count)

-- this holds of the rule on damaged pages whose callbacks the record has
abbrev pub IfAimed : ReadIoView → (DamagedPages → Type 0) → Type 0
IfAimed io holds = (damaged : DamagedPages) → io.ids ≡ stream_ids damaged → holds damaged

-- the record has this for the block. The mark of a page is one that the rule on damaged pages
-- allows, and such a page stops the stream only where they are refused
abbrev pub IsValidPart : Option Told → ReadIoView → ℕ → Part → Type 0
IsValidPart told io block part.Page = (block - io.first < good_count io.ids io.result)
    × IfAimed io (λ damaged. AllowsMark damaged (record_mark io (block - io.first)))
IsValidPart told io block (part.Stop stop.Invalid) = IfAimed io (λ damaged. damaged ≡ Refuse)
    × HasBadPage told io.checksums io.relation block
IsValidPart told io block (part.Stop stop.Unread) = (io.first ≡ block) × (io.label.ended ≡ Failed)
IsValidPart told io block (part.Stop stop.PastEnd) =
    IfSome told (λ t. relation_block_count t io.relation ≤ block)

-- it is what the oldest read has for its next block
abbrev pub IsPartOfOldest : {W : Type 0} → Option Told → Reads W → Part → Type 0
IsPartOfOldest told s part = (oldest : EndedRead) → slice_get s.ended.items 0 ≡ Some oldest
    → CoversBlock oldest.io (left_run oldest).first
    × IsValidPart told oldest.io (left_run oldest).first part
