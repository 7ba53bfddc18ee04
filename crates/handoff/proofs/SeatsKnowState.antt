-- What a seat knows of its state, from what contracts see of it.
use Rattle.std.proofs.Common.{◌≡◌, ◌≢◌, ℕ, List, [], ◌∷◌, sym, refl, ap, ◌∙◌, Some, None}
use Rattle.std.proofs.lemmas.Option.{none-some}
use Rattle.atomic_table.specs.Table.{Me, rest}
use Rattle.atomic_table.specs.Seated.{TableId}
use Rattle.handoff.specs.declared.slot.SlotContent.{SlotContent}
use Rattle.handoff.specs.declared.slot.SlotContent.TheVariants.{Empty}
use Rattle.handoff.specs.declared.slot.SeatState.{SeatState}
use Rattle.handoff.specs.declared.slot.SeatState.TheVariants.{New, Idle, Requested, Looking, Serving}
use Rattle.handoff.specs.declared.slot.SeatView.{SeatView}
use Rattle.handoff.specs.SlotRule.{seat_view}
use Rattle.handoff.specs.HandoffViews.{HandoffView, ClientView, client_view, request_of, ClientSeatHas, IsClientSeat, IsClientOf}
use Rattle.handoff.specs.HandoffViews.{PendingReplyView, IsPendingReplyOf, IsServerSeat}

-- a seat of the slot has its name and its key
pub client_at : {K Q : Type 0} (table t : TableId) (key : K) (handoff : HandoffView K) (n : SeatView K Q)
    (a : ClientView K Q) → record { table = table; key = key } ≡ handoff → client_view t n ≡ a → IsClientOf handoff a
    → (t ≡ table) × (n.key ≡ key)
client_at table t key handoff n a self view of = (
  ap (λ (x : ClientView _ _). x.table) view ∙ (of.0 ∙ sym (ap (λ (x : HandoffView _). x.table) self)),
  ap (λ (x : ClientView _ _). x.key) view ∙ (of.1 ∙ sym (ap (λ (x : HandoffView _). x.key) self)),
)

pub pending_at : {K Q : Type 0} (table t : TableId) (key k : K) (handoff : HandoffView K) (q : Q)
    (o : PendingReplyView K Q) → record { table = table; key = key } ≡ handoff
    → record { table = t; key = k; request = q } ≡ o → IsPendingReplyOf handoff o → (t ≡ table) × (k ≡ key)
pending_at table t key k handoff q o self view of = (
  ap (λ (x : PendingReplyView _ _). x.table) view ∙ (of.0 ∙ sym (ap (λ (x : HandoffView _). x.table) self)),
  ap (λ (x : PendingReplyView _ _). x.key) view ∙ (of.1 ∙ sym (ap (λ (x : HandoffView _). x.key) self)),
)

-- a seat that has just taken this has it in front
pub first_of : {S V : Type 0} {m : Me S V} {v : V} {xs : List (ℕ × S)} (x : S)
    → m ≡ (v, (0, x) ∷ xs) → m.1 ≡ (0, x) ∷ rest m.1
first_of {S} {V} x is = ap (λ (m : Me S V). m.1) is
    ∙ ap (λ (m : Me S V). (0, x) ∷ rest m.1) (sym is)

module _ {K Q A : Type 0} where
  idle_state : (d : SeatState Q) (m : Me (SlotContent Q A) (SeatView K Q)) → ClientSeatHas d m → request_of d ≡ None
      → (d ≡ Idle) × (m.1 ≡ (0, Empty) ∷ [])
  idle_state New m at none = absurd at
  idle_state Idle m at none = (refl, at)
  idle_state (Requested q) m at none = absurd (none-some q (sym none))
  idle_state Looking m at none = absurd at
  idle_state (Serving q) m at none = absurd at

  requested_state : (d : SeatState Q) (m : Me (SlotContent Q A) (SeatView K Q)) → ClientSeatHas d m → request_of d ≢ None
      → (q : Q) × (d ≡ Requested q) × (m.1 ≡ [])
  requested_state New m at some = absurd at
  requested_state Idle m at some = absurd (some refl)
  requested_state (Requested q) m at some = (q, refl, at)
  requested_state Looking m at some = absurd at
  requested_state (Serving q) m at some = absurd at

  -- a client that has requested nothing
  pub knows_idle : (key : K) (t : TableId) (me : Me (SlotContent Q A) (SeatView K Q)) (a : ClientView K Q)
      → me.0.key ≡ key → client_view t me.0 ≡ a → IsClientSeat me → a.requested ≡ None
      → me ≡ (seat_view key Idle, (0, Empty) ∷ [])
  knows_idle key t me a keyed view at none =
      let (does, has) = idle_state me.0.state me at (ap (λ (x : ClientView K Q). x.requested) view ∙ none)
      in λ k. (seat_view (keyed k) (does k), has k)

  -- a client that has requested something
  pub knows_requested : (key : K) (t : TableId) (me : Me (SlotContent Q A) (SeatView K Q)) (a : ClientView K Q)
      → me.0.key ≡ key → client_view t me.0 ≡ a → IsClientSeat me → a.requested ≢ None
      → (q : Q) × (me ≡ (seat_view key (Requested q), [])) × (a.requested ≡ Some q)
  knows_requested key t me a keyed view at some =
      let requested = ap (λ (x : ClientView K Q). x.requested) view in
      let (q, does, has) = requested_state me.0.state me at (λ e. some (sym requested ∙ e)) in
      (q, (λ k. (seat_view (keyed k) (does k), has k)), sym requested ∙ ap request_of does)

  -- a server that has taken this
  pub knows_serving : (key : K) (me : Me (SlotContent Q A) (SeatView K Q)) (q : Q) → me.0.key ≡ key
      → IsServerSeat q me → me ≡ (seat_view key (Serving q), (0, Empty) ∷ [])
  knows_serving key me q keyed is = is ∙ (λ k. (seat_view (keyed k) (Serving q), (0, Empty) ∷ []))
