-- What each step on the word tells.
use Rattle.std.specs.Prelude.{◌≡◌, ◌≢◌, ℕ, ◌∷◌}
use Rattle.atomic_table.specs.Table.{Me, Step, rest}
use Rattle.handoff.specs.declared.slot.SlotContent.{SlotContent}
use Rattle.handoff.specs.declared.slot.SlotContent.TheVariants.{Empty, Request, Reply}
use Rattle.handoff.specs.declared.slot.SeatState.TheVariants.{Idle, Requested, Looking, Serving}
use Rattle.handoff.specs.declared.slot.SeatView.{SeatView}
use Rattle.handoff.specs.SlotRule.{seat_view}

module _ {K Q A : Type 0} where
  abbrev pub open_tells : Step (SlotContent Q A) → Me (SlotContent Q A) (SeatView K Q) → ℕ
      → Me (SlotContent Q A) (SeatView K Q) → Type 0
  open_tells st m n w = w ≡ (seat_view m.0.key Idle, (0, Empty) ∷ m.1)

  abbrev pub put_tells : Step (SlotContent Q A) → Me (SlotContent Q A) (SeatView K Q) → ℕ
      → Me (SlotContent Q A) (SeatView K Q) → Type 0
  put_tells st m n w = (q : Q) × (m.1 ≡ (0, Request q) ∷ rest m.1)
      × (w ≡ (seat_view m.0.key (Requested q), rest m.1))

  -- the request comes back where no server had taken it
  abbrev pub take_back_tells : Step (SlotContent Q A) → Me (SlotContent Q A) (SeatView K Q) → ℕ
      → Me (SlotContent Q A) (SeatView K Q) → Type 0
  take_back_tells st m n w = (q : Q) × (m.0 ≡ seat_view m.0.key (Requested q))
      × (n ≡ 1 → w ≡ (seat_view m.0.key Idle, (0, Request q) ∷ m.1)) × (n ≢ 1 → w ≡ m)

  -- the reply comes where it was there
  abbrev pub take_reply_tells : (K → Q → A → Type 0) → Step (SlotContent Q A) → Me (SlotContent Q A) (SeatView K Q) → ℕ
      → Me (SlotContent Q A) (SeatView K Q) → Type 0
  take_reply_tells Replies st m n w = (q : Q) × (m.0 ≡ seat_view m.0.key (Requested q))
      × (n ≡ 3 → (a : A) × Replies m.0.key q a
      × (w ≡ (seat_view m.0.key Idle, (0, Reply a) ∷ m.1))) × (n ≢ 3 → w ≡ m)

  abbrev pub look_tells : Step (SlotContent Q A) → Me (SlotContent Q A) (SeatView K Q) → ℕ
      → Me (SlotContent Q A) (SeatView K Q) → Type 0
  look_tells st m n w = w ≡ (seat_view m.0.key Looking, m.1)

  abbrev pub serve_tells : (K → Q → Type 0) → Step (SlotContent Q A) → Me (SlotContent Q A) (SeatView K Q) → ℕ
      → Me (SlotContent Q A) (SeatView K Q) → Type 0
  serve_tells MayRequest st m n w = (n ≡ 1 → (q : Q) × MayRequest m.0.key q
      × (w ≡ (seat_view m.0.key (Serving q), (0, Request q) ∷ m.1))) × (n ≢ 1 → w ≡ m)
