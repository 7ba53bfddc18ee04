-- Each step of a server keeps the rule.
use Rattle.std.proofs.Common.{◌≡◌, ◌≢◌, ℕ, [], ◌∷◌, ◌++◌, set}
use Rattle.std.proofs.Common.{slice_index, sym, refl, ap, ◌∙◌, subst, inl, inr, ⊎_elim, arith}
use Rattle.std.proofs.Common.{length-set, get_or-set_same, eqb}
use mathlib.Core.Option.{some, none, some-injective, some-ne-none}
use mathlib.Core.Option as maybe
use lib.ListN.{get_elem?}
use prog.Atomic.{either}
use Rattle.atomic_table.specs.Table.{State, Me, Act, keeps, takes, gives, Valid, stepped}
use Rattle.atomic_table.specs.Table.{carried_after, Allows, Enters}
use Rattle.atomic_table.proofs.Lists.{at_set, set_else, at_snoc, at_longer, exchanged}
use Rattle.handoff.specs.declared.slot.SlotContent.{SlotContent}
use Rattle.handoff.specs.declared.slot.SlotContent.TheVariants.{Request, Reply}
use Rattle.handoff.specs.declared.slot.SeatState.{SeatState}
use Rattle.handoff.specs.declared.slot.SeatState.TheVariants.{New, Idle, Requested, Looking, Serving}
use Rattle.handoff.specs.declared.slot.SeatView.{SeatView}
use Rattle.handoff.specs.SlotRule.{seat_view, SlotStands, SlotRule}
use Rattle.handoff.specs.SlotSteps.{look_tells, serve_tells}
use Rattle.handoff.proofs.SlotRuleLemmas.{no_step, set_there, same_state, not_serving, same_served}
use Rattle.handoff.proofs.SlotRuleLemmas.{rule_after_no_change}
use Rattle.handoff.proofs.SlotRuleLemmas.{slot_has_request}

module _ {K Q A : Type 0} (MayRequest : K → Q → Type 0) (Replies : K → Q → A → Type 0) (key : K) where
  -- a server's seat is not the client's
  server_is_not_client : (s : State (SlotContent Q A) (SeatView K Q)) (r : SlotRule MayRequest Replies key s) (id : ℕ) (k : K)
      (d : SeatState Q) → (SlotStands MayRequest Replies key d r.word r.home → ⊥)
      → get_elem? s.views id ≡ some (seat_view k d) → 0 ≢ id
  server_is_not_client s r id k d never at e =
      let same : seat_view key r.state ≡ seat_view k d = some-injective _ _
      (sym r.client ∙ (ap (λ (i : ℕ). get_elem? s.views i) e ∙ at)) in
      never (subst (λ (x : SeatState Q). SlotStands MayRequest Replies key x r.word r.home)
      (same_state key k r.state d same) r.stands)

  pub server-looks : (slots : ℕ)
      → Enters (SlotRule MayRequest Replies key) slots 8
      (λ n w. look_tells {A = A} no_step (seat_view key New, []) n (w, []))
  server-looks slots s r wide _ =
      let old : (i : ℕ) (k : K) (q : Q)
      → get_elem? (s.views ++ seat_view key Looking ∷ []) i ≡ some (seat_view k (Serving q))
      → get_elem? s.views i ≡ some (seat_view k (Serving q)) =
      λ i k q at. ⊎_elim (λ t. t)
      (λ t. absurd (not_serving key k Looking q (λ z. z) t))
      (at_snoc s.views (seat_view key Looking) (seat_view k (Serving q)) i at) in (
        seat_view key Looking,
        record {
          word = r.word;
          has_word = r.has_word;
          word_is = r.word_is;
          home = r.home;
          slot_is = r.slot_is;
          state = r.state;
          client = at_longer s.views (seat_view key Looking ∷ []) 0 (seat_view key r.state) r.client;
          stands = r.stands;
          serving = λ i k q at. r.serving i k q (old i k q at);
          one_server = λ i j k l q p at too. r.one_server i j k l q p (old i k q at) (old j l p too);
        },
        refl,
      )

  -- where the word says that a request slot_is there, the client has requested it
  requested_at : (d : SeatState Q) (n : ℕ) (h : maybe.Option (SlotContent Q A)) → SlotStands MayRequest Replies key d n h
      → n ≡ 1 → (q : Q) × (d ≡ Requested q) × (h ≡ some (Request q)) × MayRequest key q
  requested_at New n h s e = absurd (omega (arith, s.0, e))
  requested_at Idle n h s e = absurd (⊎_elim (λ z. absurd (omega (arith, z, e)))
      (λ z. absurd (omega (arith, z, e))) s.0)
  requested_at (Requested q) n h s e = (q, refl, slot_has_request MayRequest Replies key q n h s.1 e, s.0)
  requested_at Looking n h s e = absurd s
  requested_at (Serving q) n h s e = absurd s

  pub server-serves : (slots id : ℕ) (me : Me (SlotContent Q A) (SeatView K Q))
      → me ≡ (seat_view key Looking, [])
      → Allows (SlotRule MayRequest Replies key) slots id me 8 (λ n. either (eqb n 1) 2 n)
      (serve_tells MayRequest no_step me)
  server-serves slots id me is =
      subst (λ (z : Me (SlotContent Q A) (SeatView K Q)).
      Allows (SlotRule MayRequest Replies key) slots id z 8 (λ n. either (eqb n 1) 2 n)
      (serve_tells MayRequest no_step z)) (sym is)
      (λ s r wide at _.
      let n : ℕ = slice_index s.words 8 in
      exchanged n 1 2
      (λ (m : ℕ). (v : SeatView K Q) × (a : Act (SlotContent Q A)) × Valid s.homes [] a
      × SlotRule MayRequest Replies key (stepped s 8 m id [] v a)
      × serve_tells MayRequest no_step (seat_view key Looking, []) n (v, carried_after [] a))
      (λ hit.
      let one : r.word ≡ 1 = sym r.word_is ∙ hit in
      let (q, asks, slot_is, may) = requested_at r.state r.word r.home r.stands one in
      let away = server_is_not_client s r id key Looking (λ z. z) at in
      let mine : (i : ℕ) (k : K) (p : Q)
      → get_elem? (set s.views id (seat_view key (Serving q))) i ≡ some (seat_view k (Serving p))
      → (i ≡ id) × (q ≡ p) =
      λ i k p there. ⊎_elim (λ t. (t.0, same_served key k q p t.1))
      (λ t. absurd (omega (arith, one, (r.serving i k p t.1).0)))
      (at_set s.views id i (seat_view key (Serving q)) (seat_view k (Serving p)) there) in (
        seat_view key (Serving q),
        takes 0 (Request q),
        r.slot_is ∙ ap some slot_is,
        record {
          word = 2;
          has_word = omega (arith, length-set s.words 8 2, r.has_word);
          word_is = get_or-set_same s.words 8 2 0 r.has_word;
          home = none;
          slot_is = set_there s.homes 0 r.home none r.slot_is;
          state = Requested q;
          client = set_else s.views id 0 (seat_view key (Serving q)) away
              ∙ (r.client ∙ ap (λ (d : SeatState Q). some (seat_view key d)) asks);
          stands = (may, inr (inl (refl, refl)));
          serving = λ i k p there. (refl, ap Requested (mine i k p there).1);
          one_server = λ i j k l p o there too. (mine i k p there).0 ∙ sym (mine j l o too).0;
        },
        ((λ _. (q, may, refl)), (λ miss. absurd (miss hit))),
      ))
      (λ miss. (
        seat_view key Looking,
        keeps,
        tt,
        rule_after_no_change MayRequest Replies key s id (seat_view key Looking) r at,
        ((λ hit. absurd (miss hit)), (λ _. refl)),
      )))

  pub server-replies : (slots id : ℕ) (me : Me (SlotContent Q A) (SeatView K Q)) (q : Q) (a : A)
      → me ≡ (seat_view key (Serving q), (0, Reply a) ∷ []) → Replies key q a
      → Allows (SlotRule MayRequest Replies key) slots id me 8 (λ _. 3) (λ _ _. Unit {0})
  server-replies slots id me q a is right =
      subst (λ (z : Me (SlotContent Q A) (SeatView K Q)).
      Allows (SlotRule MayRequest Replies key) slots id z 8 (λ _. 3) (λ _ _. Unit {0})) (sym is)
      (λ s r wide at _.
      let (at_server, asks) = r.serving id key q at in
      let stood : SlotStands MayRequest Replies key (Requested q) r.word r.home =
      subst (λ (d : SeatState Q). SlotStands MayRequest Replies key d r.word r.home) asks r.stands in
      let away = server_is_not_client s r id key (Serving q) (λ z. z) at in
      let none_serves : (i : ℕ) (k : K) (p : Q)
      → get_elem? (set s.views id (seat_view key Looking)) i ≡ some (seat_view k (Serving p)) → ⊥ =
      λ i k p there. ⊎_elim (λ t. not_serving key k Looking p (λ z. z) t.1)
      (λ t. t.0 (r.one_server i id k key p q t.1 at))
      (at_set s.views id i (seat_view key Looking) (seat_view k (Serving p)) there) in (
        seat_view key Looking,
        gives,
        tt,
        record {
          word = 3;
          has_word = omega (arith, length-set s.words 8 3, r.has_word);
          word_is = get_or-set_same s.words 8 3 0 r.has_word;
          home = some (Reply a);
          slot_is = set_there s.homes 0 r.home (some (Reply a)) r.slot_is;
          state = Requested q;
          client = set_else s.views id 0 (seat_view key Looking) away
              ∙ (r.client ∙ ap (λ (d : SeatState Q). some (seat_view key d)) asks);
          stands = (stood.0, inr (inr (refl, (a, refl, right))));
          serving = λ i k p there. absurd (none_serves i k p there);
          one_server = λ i j k l p o there too. absurd (none_serves i k p there);
        },
        tt,
      ))
