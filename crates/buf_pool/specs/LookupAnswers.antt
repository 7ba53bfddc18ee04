-- What `lookup` finds.
use Rattle.std.specs.Prelude.{◌≡◌, ℕ, ◌<◌, List, Option, ⊤}
use Rattle.page_check.specs.Told.{Told}
use Rattle.buf_pool.specs.declared.descriptor.Tag.{Tag}
use Rattle.buf_pool.specs.declared.index.Look.{Look}
use Rattle.buf_pool.specs.declared.index.Look.TheVariants as look
use Rattle.buf_pool.specs.declared.index.Begun.{Begun}
use Rattle.buf_pool.specs.declared.index.Begun.TheVariants as begun
use Rattle.buf_pool.specs.declared.pin.Pin.{Pin}
use Rattle.buf_pool.specs.declared.pool.Found.{Found}
use Rattle.buf_pool.specs.declared.pool.Found.TheVariants as found
use Rattle.read_callbacks.specs.GoodPages.{IsGood}
use Rattle.buf_pool.specs.PinnedPages.{carried_page}

-- the tag that a pin was asked for
abbrev pub pinned_tag : {W : Type 0} → Pin W → Tag
pinned_tag pin = pin.tag

-- the page that a pin shows
abbrev pub pinned_page : {W : Type 0} → Pin W → List ℕ
pinned_page pin = carried_page pin.claim.value

-- a pin shows a good page of the tag, and the reference of an I/O is in range
abbrev pub IsFound : {W : Type 0} → Option Told → ℕ → Tag → Found W → Type 0
IsFound told handles tag (found.Hit pin) =
    (pinned_tag pin ≡ tag) × IsGood told tag.checksums tag.relation tag.block (pinned_page pin)
IsFound told handles tag (found.Busy reference) = reference.handle < handles
IsFound told handles tag found.Absent = ⊤

-- the frame is such a one, and the reference of an I/O is in range
abbrev pub IsLookOf : ℕ → (ℕ → Type 0) → Look → Type 0
IsLookOf handles IsFrame (look.Hit f) = IsFrame f
IsLookOf handles IsFrame (look.Busy reference) = reference.handle < handles
IsLookOf handles IsFrame look.Absent = ⊤

-- the frame is such a one, and the reference of an I/O is in range
abbrev pub IsBegunOf : ℕ → (ℕ → Type 0) → Begun → Type 0
IsBegunOf handles IsFrame (begun.Yes f) = IsFrame f
IsBegunOf handles IsFrame (begun.Busy reference) = reference.handle < handles
IsBegunOf handles IsFrame (begun.Hit f) = IsFrame f
IsBegunOf handles IsFrame begun.NoRoom = ⊤
