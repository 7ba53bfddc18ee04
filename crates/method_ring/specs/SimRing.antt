-- A ring over a disk that completes its reads in a given order.
use Rattle.std.specs.Prelude.{ℕ, ◌≤◌, ◌<◌, ◌+◌, ◌%◌, cond, nat_lt, List, [], length, Option, Some}
use Rattle.std.specs.Prelude.{None, slice_index_or}
use Rattle.aio_word.specs.Stands.{IsIn}
use Rattle.method_ring.specs.declared.ring.Entry.{Entry}
use Rattle.method_ring.specs.Pending.{entry}

-- a ring without its disk
pub record IdleRingView : Type 0 where
  pub order : List ℕ
  -- which number of the order comes next
  pub turn : ℕ

abbrev pub new_idle_ring : List ℕ → IdleRingView
new_idle_ring order = record { order = order; turn = 0 }

pub record SimRingView (D : Type 0) : Type 0 where
  pub disk : D
  pub order : List ℕ
  -- which number of the order comes next
  pub turn : ℕ
  pub pending : List Entry
  pub picked : Option ℕ

-- a read of a relation that is there
pub record IsValidEntry (relations : ℕ) (e : Entry) : Type 0 where
  pub relation : e.relation < relations
  pub at_least_one : 1 ≤ e.count
  pub at_most_128 : e.count ≤ 128

-- each read that is pending can be made
abbrev pub AllEntriesValid : ℕ → List Entry → Type 0
AllEntriesValid relations entries = (e : Entry) → IsIn e entries → IsValidEntry relations e

abbrev pub new_sim_ring : {D : Type 0} → D → List ℕ → SimRingView D
new_sim_ring disk order =
    record { disk = disk; order = order; turn = 0; pending = []; picked = None }

-- at which place of so many the next pick is: the number of the order, counted around, or the
-- oldest where there is no order
abbrev pub place_of_turn : List ℕ → ℕ → ℕ → ℕ
place_of_turn order turn count = slice_index_or order turn 0 % count

abbrev pub number_at_place : ℕ → List Entry → ℕ
number_at_place place entries = (slice_index_or entries place (entry 0 0 0 0)).user

abbrev pub next_number : {D : Type 0} → SimRingView D → ℕ
next_number s = number_at_place (place_of_turn s.order s.turn (length s.pending)) s.pending

-- the number that a pick answers
abbrev pub number_picked : {D : Type 0} → SimRingView D → Option ℕ
number_picked s = cond (nat_lt 0 (length s.pending)) (Some (next_number s)) None

abbrev pub turn_after : List ℕ → ℕ → ℕ
turn_after order turn = cond (nat_lt 0 (length order)) ((turn + 1) % length order) turn

abbrev pub with_pick : {D : Type 0} → SimRingView D → SimRingView D
with_pick s = cond (nat_lt 0 (length s.pending))
    (record s { turn = turn_after s.order s.turn; picked = Some (next_number s) }) s
