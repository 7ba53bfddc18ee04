-- What a runner over a ring does.
use Rattle.std.specs.Prelude.{ℕ, ◌≡◌, ◌+◌, ◌≤◌, ◌<◌, List, [], ◌∷◌, ◌++◌, map, length, Option}
use Rattle.std.specs.List.{All}
use Rattle.page_check.specs.declared.world.World.{Ghosts as WorldGhosts}
use Rattle.page_check.specs.Told.{Told}
use Rattle.aio_disk.specs.Counts.{CountRose, count_plus}
use Rattle.aio_word.specs.declared.Class.{Class}
use Rattle.aio_word.specs.declared.Class.TheVariants.{Failed}
use Rattle.aio_word.specs.declared.Known.{Known}
use Rattle.aio_word.specs.declared.Mark.{Mark}
use Rattle.aio_word.specs.declared.WaitRef.{WaitRef}
use Rattle.aio_word.specs.declared.Kind.TheVariants as kind
use Rattle.aio_word.specs.Events.{mark_count}
use Rattle.aio_word.specs.Stands.{IsIn}
use Rattle.aio_word.specs.Tokens.{AppendsMarks, make_mark, failed_mark_count}
use Rattle.aio_handle.specs.Execution.{last_count}
use Rattle.aio_callback.specs.ReadIoView.{ReadIoView, IsCompletedRead, record_aim}
use Rattle.read_callbacks.specs.Finishes.{Finish, FinishesGrew}
use Rattle.aio_callback.specs.Finishes.{all_finishes, record_reference}
use Rattle.method_worker.specs.QueueViews.{QueueView, SeatView}
use Rattle.method_worker.specs.SeatCalls.{SeatPops}
use Rattle.method_ring.specs.ClaimAttempts.{ClaimsOrFindsUnclaimable}
use Rattle.method_ring.specs.ClaimedIos.{ClaimedIo, AllClaimedIos, NumbersBelow, claimed_mark}

-- what contracts see of a runner
pub record RingRunnerView (G P : Type 0) : Type 0 where
  pub ring : G
  pub places : P
  pub queue : QueueView
  pub seat : SeatView

-- the Claimed marks of these
abbrev pub group_claims : List ClaimedIo → List Mark
group_claims held = map claimed_mark held

-- the Io and Shared marks of a read that has ended, and of several
abbrev pub end_marks : ReadIoView → List Mark
end_marks r = make_mark (record_reference r) (kind.Io r.label.ended)
    ∷ make_mark (record_reference r) kind.Shared ∷ []

abbrev pub all_end_marks : List ReadIoView → List Mark
all_end_marks [] = []
all_end_marks (r ∷ rs) = end_marks r ++ all_end_marks rs

-- what the places are told of them
abbrev pub group_finishes : List ReadIoView → List Finish
group_finishes [] = []
group_finishes (r ∷ rs) = all_finishes r ++ group_finishes rs

-- the Claimed mark of the incarnation that it carries
abbrev pub read_claim_mark : ReadIoView → Mark
read_claim_mark r = make_mark (record_reference r) kind.Claimed

-- the actor claimed at most so many further I/Os, in their order, and holds them behind the others
pub record GathersIos {W : Type 0} (world : WorldGhosts W) (most : ℕ) (p q : Known)
    (held held' : List ClaimedIo) : Type 0 where
  pub others : List ClaimedIo
  pub at_most : length others ≤ most
  pub claimed_ios_are : held' ≡ held ++ others
  pub numbers : NumbersBelow (length held') held'
  pub marks_grow : AppendsMarks p q (group_claims others)
  pub all_claimed : AllClaimedIos world q held'

-- the seat popped at most so many references and pushed none, and the actor saw to each: it claimed
-- the incarnation, or found that it could not be claimed
pub record PopsReferences (most : ℕ) (s s' : SeatView) (p q : Known) : Type 0 where
  pub refs : List WaitRef
  pub words : List ℕ
  pub at_most : length refs ≤ most
  pub seat_popped : SeatPops refs words s s'
  pub each : All (ClaimsOrFindsUnclaimable p q) refs

-- the read of this aim was completed as some record says, and ended with this class: the actor
-- made the Io and the Shared mark and nothing else, and the places were told each block
pub record ReadCompletedAs (told : Option Told) (t : WaitRef) (aim : List ℕ) (class : Class)
    (p q : Known)
    (before after : Option (List Finish)) : Type 0 where
  pub read_io : ReadIoView
  pub aim_is : record_aim read_io ≡ aim
  pub reference_is : record_reference read_io ≡ t
  pub class_is : read_io.label.ended ≡ class
  pub completed_read : IsCompletedRead told read_io
  pub marks_grow : AppendsMarks p q (end_marks read_io)
  pub finishes_grow : FinishesGrew before after (all_finishes read_io)

-- a record that was held, as its read has ended it
pub record CompletesClaimedIo (told : Option Told) (held : List ClaimedIo) (r : ReadIoView) : Type 0
  where
    pub completed_read : IsCompletedRead told r
    pub claimed_io : ClaimedIo
    pub was_claimed : IsIn claimed_io held
    pub reference_is : record_reference r ≡ claimed_io.1.0
    pub aim_is : record_aim r ≡ record_aim claimed_io.1.1

-- of what was held, these are still held, and the others have ended, in the order in which the
-- ring has picked them
pub record CompletesGroup (told : Option Told) (held held' : List ClaimedIo) (p q : Known)
    (before after : Option (List Finish)) (reads reads' faults faults' : ℕ) : Type 0 where
  pub ended_records : List ReadIoView
  pub each_ended : (r : ReadIoView) → IsIn r ended_records → CompletesClaimedIo told held r
  -- each incarnation that was held has ended as often as it was held, and is not held any more
  pub once : (t : WaitRef) → mark_count t kind.Claimed (group_claims held)
      ≡ mark_count t kind.Claimed (map read_claim_mark ended_records) + mark_count t kind.Claimed
      (group_claims held')
  pub still_claimed : (x : ClaimedIo) → IsIn x held' → IsIn x held
  pub count : length held ≡ length ended_records + length held'
  pub marks_grow : AppendsMarks p q (all_end_marks ended_records)
  pub finishes_grow : FinishesGrew before after (group_finishes ended_records)
  pub reads_counted : reads' ≡ count_plus (length ended_records) reads
  pub faults_not_reduced : faults ≤ faults'
  pub fault_each : faults' < last_count → faults + failed_mark_count (all_end_marks ended_records)
      ≤ faults'
  pub failures_counted : (r : ReadIoView) → IsIn r ended_records → r.label.ended ≡ Failed
      → CountRose faults faults'

-- the runner claimed these beside the one that it was handed, and ended all of them: each
-- completion ends the incarnation whose number it carries
pub record RunsGroup (told : Option Told) (given : WaitRef × ReadIoView) (p q : Known)
    (before after : Option (List Finish)) (reads reads' faults faults' : ℕ) : Type 0 where
  pub others : List ClaimedIo
  pub at_most_seven : length others ≤ 7
  pub known_between : Known
  pub claims : AppendsMarks p known_between (group_claims others)
  pub ends : CompletesGroup told ((0, given) ∷ others) [] known_between q before after reads reads'
      faults
      faults'
