-- The rule of the slot.
use Rattle.std.specs.Prelude.{◌≡◌, ℕ, ◌⊎◌, ◌<◌, length, slice_index}
use mathlib.Core.Option.{some, none}
use mathlib.Core.Option as maybe
use lib.ListN.{get_elem?}
use Rattle.atomic_table.specs.Table.{State}
use Rattle.handoff.specs.declared.slot.SlotContent.{SlotContent}
use Rattle.handoff.specs.declared.slot.SlotContent.TheVariants.{Empty, Request, Reply}
use Rattle.handoff.specs.declared.slot.SeatState.{SeatState}
use Rattle.handoff.specs.declared.slot.SeatState.TheVariants.{New, Idle, Requested, Looking, Serving}
use Rattle.handoff.specs.declared.slot.SeatView.{SeatView}

abbrev pub seat_view : {K Q : Type 0} → K → SeatState Q → SeatView K Q
seat_view key state = record { key = key; state = state }

-- the word: 0 idle, 1 a request, 2 at a server, 3 a reply, 4 closed, 5 new
module _ {K Q A : Type 0} (MayRequest : K → Q → Type 0) (Replies : K → Q → A → Type 0) (key : K) where
  -- the request is in the slot, or a server has the slot, or a reply is in it
  abbrev pub RequestStands : Q → ℕ → maybe.Option (SlotContent Q A) → Type 0
  RequestStands q n home = ((n ≡ 1) × (home ≡ some (Request q)))
      ⊎ (((n ≡ 2) × (home ≡ none))
      ⊎ ((n ≡ 3) × ((a : A) × (home ≡ some (Reply a)) × Replies key q a)))

  -- what the word and the slot are while the client is in this state
  abbrev pub SlotStands : SeatState Q → ℕ → maybe.Option (SlotContent Q A) → Type 0
  SlotStands New n home = (n ≡ 5) × (home ≡ some Empty)
  SlotStands Idle n home = ((n ≡ 0) ⊎ (n ≡ 4)) × (home ≡ none)
  SlotStands (Requested q) n home = MayRequest key q × RequestStands q n home
  SlotStands Looking n home = ⊥
  SlotStands (Serving q) n home = ⊥

  pub record SlotRule (s : State (SlotContent Q A) (SeatView K Q)) : Type 0 where
    pub word : ℕ
    pub has_word : 8 < length s.words
    pub word_is : slice_index s.words 8 ≡ word
    pub home : maybe.Option (SlotContent Q A)
    pub slot_is : get_elem? s.homes 0 ≡ some home
    -- the client has the first seat
    pub state : SeatState Q
    pub client : get_elem? s.views 0 ≡ some (seat_view key state)
    pub stands : SlotStands state word home
    -- a server that has taken a request has the one that was requested, and no other has one
    pub serving : (i : ℕ) (k : K) (q : Q) → get_elem? s.views i ≡ some (seat_view k (Serving q))
        → (word ≡ 2) × (state ≡ Requested q)
    pub one_server : (i j : ℕ) (k l : K) (q r : Q)
        → get_elem? s.views i ≡ some (seat_view k (Serving q))
        → get_elem? s.views j ≡ some (seat_view l (Serving r)) → i ≡ j
