-- What contracts see of a queue and of its seats.
use Rattle.std.specs.Prelude.{ℕ, List, [], ◌≡◌}
use Rattle.atomic_table.specs.Seated.{TableId}
use Rattle.aio_word.specs.declared.WaitRef.{WaitRef}
use Rattle.method_worker.specs.declared.log.Log.{Log}
use Rattle.method_worker.specs.declared.log.Notes.{Notes}
use Rattle.method_worker.specs.QueueRule.{all_parts}

-- which queue it is, and how often it was opened again
pub record QueueView : Type 0 where
  pub entries : TableId
  pub words : TableId
  pub reopened : ℕ

-- a seat: its queue, its parts, what it has pushed and popped, the closing words that it has read,
-- and the numbers of reopenings under which it has closed
pub record SeatView : Type 0 where
  pub entries : TableId
  pub words : TableId
  pub parts : ℕ
  pub pushes : List WaitRef
  pub pops : List WaitRef
  pub loads : List ℕ
  pub closes : List ℕ

-- the seat with this pass of the entries and this seat on the words
abbrev pub seat_view : TableId → TableId → Log → Notes → SeatView
seat_view entries words v n = record {
  entries = entries;
  words = words;
  parts = v.parts;
  pushes = v.pushes;
  pops = v.pops;
  loads = n.loads;
  closes = n.closes;
}

abbrev pub IsSeatOf : QueueView → SeatView → Type 0
IsSeatOf q s = (s.entries ≡ q.entries) × (s.words ≡ q.words)

-- the only seat of its queue
abbrev pub IsOnlySeat : SeatView → Type 0
IsOnlySeat s = s.parts ≡ all_parts

-- a seat of a queue that was opened for one seat or for several, and it has done nothing
pub record IsNewSeat (q : QueueView) (seats : ℕ) (s : SeatView) : Type 0 where
  pub seat_of_queue : IsSeatOf q s
  pub is_only_seat : seats ≡ 1 → IsOnlySeat s
  pub pushes : s.pushes ≡ []
  pub pops : s.pops ≡ []
  pub loads : s.loads ≡ []
  pub closes : s.closes ≡ []

-- the same seat, whatever its lists are
abbrev pub IsSameSeat : SeatView → SeatView → Type 0
IsSameSeat s s' = (s'.entries ≡ s.entries) × (s'.words ≡ s.words) × (s'.parts ≡ s.parts)
