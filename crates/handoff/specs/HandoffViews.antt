-- What contracts see of a handoff, of its client and of a server that has taken a request.
use Rattle.std.specs.Prelude.{◌≡◌, ◌∷◌, [], Option, Some, None}
use Rattle.atomic_table.specs.Table.{Me}
use Rattle.atomic_table.specs.Seated.{TableId}
use Rattle.handoff.specs.declared.slot.SlotContent.{SlotContent}
use Rattle.handoff.specs.declared.slot.SlotContent.TheVariants.{Empty}
use Rattle.handoff.specs.declared.slot.SeatState.{SeatState}
use Rattle.handoff.specs.declared.slot.SeatState.TheVariants.{New, Idle, Requested, Looking, Serving}
use Rattle.handoff.specs.declared.slot.SeatView.{SeatView}
use Rattle.handoff.specs.declared.client.Completion.{Completion}
use Rattle.handoff.specs.declared.client.Completion.TheVariants.{Reply, Request}
use Rattle.handoff.specs.SlotRule.{seat_view}

-- which slot it is, and what its client and its servers agree on
pub record HandoffView (K : Type 0) : Type 0 where
  pub table : TableId
  pub key : K

-- a client, and what it has requested and not yet got back
pub record ClientView (K Q : Type 0) : Type 0 where
  pub table : TableId
  pub key : K
  pub requested : Option Q

abbrev pub request_of : {Q : Type 0} → SeatState Q → Option Q
request_of New = None
request_of Idle = None
request_of (Requested q) = Some q
request_of Looking = None
request_of (Serving q) = None

abbrev pub client_view : {K Q : Type 0} → TableId → SeatView K Q → ClientView K Q
client_view table n = record { table = table; key = n.key; requested = request_of n.state }

-- the reply that a server owes to this request
pub record PendingReplyView (K Q : Type 0) : Type 0 where
  pub table : TableId
  pub key : K
  pub request : Q

abbrev pub IsPendingReplyOf : {K Q : Type 0} → HandoffView K → PendingReplyView K Q → Type 0
IsPendingReplyOf h p = (p.table ≡ h.table) × (p.key ≡ h.key)

-- a client of this handoff
abbrev pub IsClientOf : {K Q : Type 0} → HandoffView K → ClientView K Q → Type 0
IsClientOf h c = (c.table ≡ h.table) × (c.key ≡ h.key)

-- a client of the same handoff
abbrev pub IsSameClient : {K Q : Type 0} → ClientView K Q → ClientView K Q → Type 0
IsSameClient c c' = (c'.table ≡ c.table) × (c'.key ≡ c.key)

module _ {K Q A : Type 0} where
  -- what a client has of the slot: the empty slot, or nothing
  abbrev pub ClientSeatHas : SeatState Q → Me (SlotContent Q A) (SeatView K Q) → Type 0
  ClientSeatHas New m = ⊥
  ClientSeatHas Idle m = m.1 ≡ (0, Empty) ∷ []
  ClientSeatHas (Requested q) m = m.1 ≡ []
  ClientSeatHas Looking m = ⊥
  ClientSeatHas (Serving q) m = ⊥

  abbrev pub IsClientSeat : Me (SlotContent Q A) (SeatView K Q) → Type 0
  IsClientSeat m = ClientSeatHas m.0.state m

  -- a server that has the empty slot, and owes a reply
  abbrev pub IsServerSeat : Q → Me (SlotContent Q A) (SeatView K Q) → Type 0
  IsServerSeat q m = m ≡ (seat_view m.0.key (Serving q), (0, Empty) ∷ [])

-- this holds of the reply, where there is one
abbrev pub IfReply : {Q A : Type 0} → Completion Q A → (A → Type 0) → Type 0
IfReply (Reply a) P = P a
IfReply (Request q) P = Unit {0}

-- this holds of the request, where it came back
abbrev pub IfRequest : {Q A : Type 0} → Completion Q A → (Q → Type 0) → Type 0
IfRequest (Reply a) P = Unit {0}
IfRequest (Request q) P = P q
