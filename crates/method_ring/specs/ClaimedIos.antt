-- The claimed I/Os that are held while their reads are in a ring.
use Rattle.std.specs.Prelude.{ℕ, ◌≡◌, ◌≢◌, ◌<◌, true, List, [], ◌∷◌, Option, None}
use Rattle.page_check.specs.declared.world.World.{Ghosts as WorldGhosts}
use Rattle.aio_word.specs.declared.Known.{Known}
use Rattle.aio_word.specs.declared.Mark.{Mark}
use Rattle.aio_word.specs.declared.WaitRef.{WaitRef}
use Rattle.aio_word.specs.declared.Kind.TheVariants as kind
use Rattle.aio_word.specs.Stands.{IsIn}
use Rattle.aio_word.specs.Tokens.{IsClaimed, make_mark}
use Rattle.aio_handle.specs.Labels.{bound_label}
use Rattle.aio_callback.specs.ReadIoView.{ReadIoView, ReadFits, record_aim}
use Rattle.method_ring.specs.declared.ring.Entry.{Entry}
use Rattle.method_ring.specs.Numbered.{first_with_number, without_number}
use Rattle.method_ring.specs.Pending.{entry}

-- the number of the read, the incarnation, and its record
abbrev pub ClaimedIo : Type 0
ClaimedIo = ℕ × (WaitRef × ReadIoView)

abbrev pub claimed_number : ClaimedIo → ℕ
claimed_number x = x.0

abbrev pub claimed_with_number : ℕ → List ClaimedIo → Option ClaimedIo
claimed_with_number user held = first_with_number claimed_number user held

abbrev pub without_claimed : ℕ → List ClaimedIo → List ClaimedIo
without_claimed user held = without_number claimed_number user held

-- the entry of the ring that reads it
abbrev pub claimed_entry : ClaimedIo → Entry
claimed_entry x = entry x.0 x.1.1.relation x.1.1.first x.1.1.count

abbrev pub claimed_mark : ClaimedIo → Mark
claimed_mark x = make_mark x.1.0 kind.Claimed

-- a record that is aimed at a relation that is there, and that no answer has
pub record IsReadableRecord (relations : ℕ) (r : ReadIoView) : Type 0 where
  pub is_aimed : r.aimed ≡ true
  pub relation_in_range : r.relation < relations
  pub no_answer : r.raw ≡ None

-- each number is below this one
abbrev pub NumbersBelow : ℕ → List ClaimedIo → Type 0
NumbersBelow n held = (x : ClaimedIo) → IsIn x held → x.0 < n

-- the incarnations differ from one another
abbrev pub ReferencesDiffer : List ClaimedIo → Type 0
ReferencesDiffer [] = Unit {0}
ReferencesDiffer (x ∷ xs) = ((y : ClaimedIo) → IsIn y xs → y.1.0 ≢ x.1.0) × ReferencesDiffer xs

-- the actor has claimed the incarnation and not executed it, and the record is as the claim gave it
pub record IsClaimedIo {W : Type 0} (world : WorldGhosts W) (p : Known) (x : ClaimedIo) : Type 0
  where
    pub claimed : IsClaimed p x.1.0
    pub aim : IsIn (x.1.0, record_aim x.1.1) p.aims
    pub label : x.1.1.label ≡ bound_label x.1.0.handle x.1.0.generation
    pub fits : ReadFits world.told world.relations x.1.1

pub record AllClaimedIos {W : Type 0} (world : WorldGhosts W) (p : Known) (held : List ClaimedIo)
    : Type 0 where
  pub each : (x : ClaimedIo) → IsIn x held → IsClaimedIo world p x
  pub references_differ : ReferencesDiffer held
