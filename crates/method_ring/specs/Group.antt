-- A ring and the I/Os whose reads are in it.
use Rattle.std.specs.Prelude.{ℕ, ◌≡◌, ◌≤◌, List, map, Option, Some, Result, Ok, Err}
use Rattle.page_check.specs.Told.{Told}
use Rattle.aio_disk.specs.Counts.{CountRose, count_plus}
use Rattle.aio_word.specs.declared.WaitRef.{WaitRef}
use Rattle.aio_word.specs.Stands.{IsIn}
use Rattle.read_callbacks.specs.declared.chain.Raw.{Raw}
use Rattle.read_callbacks.specs.declared.chain.Raw.TheVariants.{Read, Failed}
use Rattle.aio_callback.specs.ReadIoView.{ReadIoView, HasAnswer, record_aim}
use Rattle.method_ring.specs.declared.ring.Entry.{Entry}
use Rattle.method_ring.specs.ClaimedIos.{ClaimedIo, claimed_entry, claimed_with_number}
use Rattle.method_ring.specs.ClaimedIos.{without_claimed, IsReadableRecord}

pub record GroupView (G : Type 0) : Type 0 where
  pub ring : G
  pub claimed_ios : List ClaimedIo

-- what a read answered
abbrev pub raw_answer : {E : Type 0} → Result ℕ E → Raw
raw_answer (Ok n) = Read n
raw_answer (Err e) = Failed

-- the reads that are pending are those of what is held, and each can be made
pub record PendingReadsClaimed (pending : List Entry) (relations : ℕ) (held : List ClaimedIo) : Type
    0
  where
    pub pending_is : pending ≡ map claimed_entry held
    pub unread : (x : ClaimedIo) → IsIn x held → IsReadableRecord relations x.1.1

-- the I/O is the one that was held under the number that was picked; its record has the answer of
-- one read, which failed only where the count of faults rose, and is otherwise as it was
pub record PickedFrom (told : Option Told) (held held' : List ClaimedIo) (c : WaitRef × ReadIoView)
    (raw : Raw) (reads reads' faults faults' : ℕ) : Type 0 where
  pub user : ℕ
  pub from : ClaimedIo
  pub was_claimed : claimed_with_number user held ≡ Some from
  pub others : held' ≡ without_claimed user held
  pub reference_is : c.0 ≡ from.1.0
  pub aim : record_aim c.1 ≡ record_aim from.1.1
  pub label : c.1.label ≡ from.1.1.label
  pub aimed : c.1.aimed ≡ from.1.1.aimed
  pub relation : c.1.relation ≡ from.1.1.relation
  pub raw_is : c.1.raw ≡ Some raw
  pub has_answer : HasAnswer told c.1
  pub read_counted : reads' ≡ count_plus 1 reads
  pub faults_not_reduced : faults ≤ faults'
  pub failure_counted : raw ≡ Failed → CountRose faults faults'
