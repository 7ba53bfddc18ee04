-- What the rule of the slot says, and when it holds again after a step.
use Rattle.std.proofs.Common.{◌≡◌, ◌≢◌, ℕ, zero, suc, List, [], ◌∷◌, set}
use Rattle.std.proofs.Common.{slice_index, sym, refl, ap, ◌∙◌, subst, ⊎_elim, arith}
use Rattle.std.proofs.Common.{length-set, get_or-set_same}
use mathlib.Core.Option.{some, none, some-injective, some-ne-none}
use mathlib.Core.Option as maybe
use lib.ListN.{get_elem?}
use Rattle.atomic_table.specs.Table.{State, Step, step}
use Rattle.atomic_table.proofs.Lists.{at_set, set_again}
use Rattle.handoff.specs.declared.slot.SlotContent.{SlotContent}
use Rattle.handoff.specs.declared.slot.SlotContent.TheVariants.{Request, Reply}
use Rattle.handoff.specs.declared.slot.SeatState.{SeatState}
use Rattle.handoff.specs.declared.slot.SeatState.TheVariants.{New, Idle, Requested, Looking, Serving}
use Rattle.handoff.specs.declared.slot.SeatView.{SeatView}
use Rattle.handoff.specs.SlotRule.{seat_view, RequestStands, SlotStands, SlotRule}

-- the word as it was word_is
pub set_found : (l : List ℕ) (i : ℕ) → set l i (slice_index l i) ≡ l
set_found [] i = refl
set_found (x ∷ xs) zero = refl
set_found (x ∷ xs) (suc i) = λ k. x ∷ set_found xs i k

pub set_there : {A : Type 0} (l : List A) (i : ℕ) (v w : A) → get_elem? l i ≡ some v
    → get_elem? (set l i w) i ≡ some w
set_there [] i v w at = absurd (some-ne-none v (sym at))
set_there (x ∷ xs) zero v w at = refl
set_there (x ∷ xs) (suc i) v w at = set_there xs i v w at

abbrev pub IsServing : {Q : Type 0} → SeatState Q → Type 0
IsServing (Serving q) = Unit {0}
IsServing New = ⊥
IsServing Idle = ⊥
IsServing (Requested q) = ⊥
IsServing Looking = ⊥

abbrev served_by : {Q : Type 0} → SeatState Q → maybe.Option Q
served_by (Serving q) = some q
served_by New = none
served_by Idle = none
served_by (Requested q) = none
served_by Looking = none

-- at_server notes that are one do the same
pub same_state : {K Q : Type 0} (k l : K) (d e : SeatState Q) → seat_view k d ≡ seat_view l e → d ≡ e
same_state k l d e is = ap (λ (x : SeatView _ _). x.state) is

pub not_serving : {K Q : Type 0} (k l : K) (d : SeatState Q) (q : Q) → (IsServing d → ⊥)
    → seat_view k d ≡ seat_view l (Serving q) → ⊥
not_serving k l d q never is = never (subst IsServing (sym (same_state k l d (Serving q) is)) tt)

pub same_served : {K Q : Type 0} (k l : K) (q r : Q) → seat_view k (Serving q) ≡ seat_view l (Serving r) → q ≡ r
same_served k l q r is = some-injective q r (ap served_by (same_state k l (Serving q) (Serving r) is))

-- what a step tells does not depend on its operands
abbrev pub no_step : {Q A : Type 0} → Step (SlotContent Q A)
no_step = step 0 0 0 0 none

module _ {K Q A : Type 0} (MayRequest : K → Q → Type 0) (Replies : K → Q → A → Type 0) (key : K) where
  client_serves_not : (d : SeatState Q) (n : ℕ) (h : maybe.Option (SlotContent Q A))
      → SlotStands MayRequest Replies key d n h → IsServing d → ⊥
  client_serves_not New n h s t = t
  client_serves_not Idle n h s t = t
  client_serves_not (Requested q) n h s t = t
  client_serves_not Looking n h s t = t
  client_serves_not (Serving q) n h s t = s

  -- after a step of the client, made while no server has a request
  pub rule_after_client_step : (s : State (SlotContent Q A) (SeatView K Q)) (r : SlotRule MayRequest Replies key s) (d : SeatState Q) (n : ℕ)
      (homes : List (maybe.Option (SlotContent Q A))) (h : maybe.Option (SlotContent Q A))
      → get_elem? homes 0 ≡ some h → r.word ≢ 2 → SlotStands MayRequest Replies key d n h
      → SlotRule MayRequest Replies key
      record { words = set s.words 8 n; homes = homes; views = set s.views 0 (seat_view key d) }
  rule_after_client_step s r d n homes h slot_is free stands =
      let none_serves : (i : ℕ) (k : K) (q : Q)
      → get_elem? (set s.views 0 (seat_view key d)) i ≡ some (seat_view k (Serving q)) → ⊥ =
      λ i k q at. ⊎_elim
      (λ t. not_serving key k d q (client_serves_not d n h stands) t.1)
      (λ t. free (r.serving i k q t.1).0)
      (at_set s.views 0 i (seat_view key d) (seat_view k (Serving q)) at) in record {
        word = n;
        has_word = omega (arith, length-set s.words 8 n, r.has_word);
        word_is = get_or-set_same s.words 8 n 0 r.has_word;
        home = h;
        slot_is = slot_is;
        state = d;
        client = set_there s.views 0 (seat_view key r.state) (seat_view key d) r.client;
        stands = stands;
        serving = λ i k q at. absurd (none_serves i k q at);
        one_server = λ i j k l q r at too. absurd (none_serves i k q at);
      }

  -- after a step that changes nothing
  pub rule_after_no_change : (s : State (SlotContent Q A) (SeatView K Q)) (id : ℕ) (v : SeatView K Q) → SlotRule MayRequest Replies key s
      → get_elem? s.views id ≡ some v → SlotRule MayRequest Replies key
      record {
        words = set s.words 8 (slice_index s.words 8);
        homes = s.homes;
        views = set s.views id v;
      }
  rule_after_no_change s id v r at = subst (SlotRule MayRequest Replies key)
      (λ k. record {
        words = sym (set_found s.words 8) k;
        homes = s.homes;
        views = sym (set_again s.views id v at) k;
      }) r

  -- what the client same_state is what its seat knows
  pub stands_for_client : (s : State (SlotContent Q A) (SeatView K Q)) (r : SlotRule MayRequest Replies key s) (d : SeatState Q)
      → get_elem? s.views 0 ≡ some (seat_view key d) → SlotStands MayRequest Replies key d r.word r.home
  stands_for_client s r d at = subst (λ (e : SeatState Q). SlotStands MayRequest Replies key e r.word r.home)
      (same_state key key r.state d (some-injective _ _ (sym r.client ∙ at))) r.stands

  pub idle_is_not_at_server : (n : ℕ) (h : maybe.Option (SlotContent Q A)) → SlotStands MayRequest Replies key Idle n h → n ≢ 2
  idle_is_not_at_server n h s e = ⊎_elim (λ z. absurd (omega (arith, z, e))) (λ z. absurd (omega (arith, z, e))) s.0

  pub slot_has_request : (q : Q) (n : ℕ) (h : maybe.Option (SlotContent Q A)) → RequestStands MayRequest Replies key q n h
      → n ≡ 1 → h ≡ some (Request q)
  slot_has_request q n h s e = ⊎_elim (λ t. t.1)
      (λ t. ⊎_elim (λ u. absurd (omega (arith, u.0, e))) (λ u. absurd (omega (arith, u.0, e))) t) s

  pub slot_has_reply : (q : Q) (n : ℕ) (h : maybe.Option (SlotContent Q A)) → RequestStands MayRequest Replies key q n h
      → n ≡ 3 → (a : A) × (h ≡ some (Reply a)) × Replies key q a
  slot_has_reply q n h s e = ⊎_elim (λ t. absurd (omega (arith, t.0, e)))
      (λ t. ⊎_elim (λ u. absurd (omega (arith, u.0, e))) (λ u. u.1) t) s
