-- Each step of the client keeps the rule.
use Rattle.std.proofs.Common.{◌≡◌, ℕ, ◌<◌, List, [], ◌∷◌, map, length, set}
use Rattle.std.proofs.Common.{slice_index, sym, refl, ap, ◌∙◌, subst, inl, inr, ⊎_elim, arith}
use Rattle.std.proofs.Common.{eqb}
use mathlib.Core.Option.{some, none, some-ne-none}
use lib.ListN.{get_elem?}
use prog.Atomic.{either}
use Rattle.atomic_table.specs.Table.{Me, Act, keeps, takes, gives, Valid, stepped}
use Rattle.atomic_table.specs.Table.{carried_after, Allows, opening}
use Rattle.atomic_table.proofs.Lists.{at_snoc, exchanged}
use Rattle.handoff.specs.declared.slot.SlotContent.{SlotContent}
use Rattle.handoff.specs.declared.slot.SlotContent.TheVariants.{Empty, Request, Reply}
use Rattle.handoff.specs.declared.slot.SeatState.TheVariants.{New, Idle, Requested, Serving}
use Rattle.handoff.specs.declared.slot.SeatView.{SeatView}
use Rattle.handoff.specs.SlotRule.{seat_view, SlotRule}
use Rattle.handoff.specs.SlotSteps.{open_tells, put_tells, take_back_tells, take_reply_tells}
use Rattle.handoff.proofs.SlotRuleLemmas.{no_step, set_there, not_serving}
use Rattle.handoff.proofs.SlotRuleLemmas.{rule_after_client_step, rule_after_no_change, stands_for_client, idle_is_not_at_server}
use Rattle.handoff.proofs.SlotRuleLemmas.{slot_has_request, slot_has_reply}

module _ {K Q A : Type 0} (MayRequest : K → Q → Type 0) (Replies : K → Q → A → Type 0) (key : K) where
  -- the slot at the start
  pub opening_has_rule : (ws : List ℕ) (xs : List (SlotContent Q A)) → 8 < length ws → slice_index ws 8 ≡ 5
      → xs ≡ Empty ∷ [] → SlotRule MayRequest Replies key (opening ws xs (seat_view key New))
  opening_has_rule ws xs has_word word_is is =
      let none_serves : (i : ℕ) (k : K) (q : Q)
      → get_elem? (seat_view key New ∷ []) i ≡ some (seat_view k (Serving q)) → ⊥ =
      λ i k q at. ⊎_elim (λ t. absurd (some-ne-none _ (sym t)))
      (λ t. not_serving key k New q (λ z. z) t) (at_snoc [] (seat_view key New) (seat_view k (Serving q)) i at)
      in record {
        word = 5;
        has_word = has_word;
        word_is = word_is;
        home = some Empty;
        slot_is = ap (λ (l : List (SlotContent Q A)). get_elem? (map some l) 0) is;
        state = New;
        client = refl;
        stands = (refl, refl);
        serving = λ i k q at. absurd (none_serves i k q at);
        one_server = λ i j k l q r at too. absurd (none_serves i k q at);
      }

  pub client-opens : (slots id : ℕ) (me : Me (SlotContent Q A) (SeatView K Q))
      → id ≡ 0 → me ≡ (seat_view key New, [])
      → Allows (SlotRule MayRequest Replies key) slots id me 8 (λ _. 0) (open_tells no_step me)
  client-opens slots id me at_first is =
      subst (λ (z : ℕ × Me (SlotContent Q A) (SeatView K Q)).
      Allows (SlotRule MayRequest Replies key) slots z.0 z.1 8 (λ _. 0) (open_tells no_step z.1))
      (λ k. (sym at_first k, sym is k))
      (λ s r wide at _.
      let stood = stands_for_client MayRequest Replies key s r New at in (
        seat_view key Idle,
        takes 0 Empty,
        r.slot_is ∙ ap some stood.1,
        rule_after_client_step MayRequest Replies key s r Idle 0 (set s.homes 0 none) none (set_there s.homes 0 r.home none r.slot_is)
            (λ e. absurd (omega (arith, stood.0, e))) (inl refl, refl),
        refl,
      ))

  pub client-puts : (slots id : ℕ) (me : Me (SlotContent Q A) (SeatView K Q)) (q : Q)
      → id ≡ 0 → me ≡ (seat_view key Idle, (0, Request q) ∷ []) → MayRequest key q
      → Allows (SlotRule MayRequest Replies key) slots id me 8 (λ _. 1) (put_tells no_step me)
  client-puts slots id me q at_first is may =
      subst (λ (z : ℕ × Me (SlotContent Q A) (SeatView K Q)).
      Allows (SlotRule MayRequest Replies key) slots z.0 z.1 8 (λ _. 1) (put_tells no_step z.1))
      (λ k. (sym at_first k, sym is k))
      (λ s r wide at _.
      let stood = stands_for_client MayRequest Replies key s r Idle at in (
        seat_view key (Requested q),
        gives,
        tt,
        rule_after_client_step MayRequest Replies key s r (Requested q) 1 (set s.homes 0 (some (Request q))) (some (Request q))
            (set_there s.homes 0 r.home (some (Request q)) r.slot_is)
            (idle_is_not_at_server MayRequest Replies key r.word r.home stood) (may, inl (refl, refl)),
        (q, refl, refl),
      ))

  pub client-closes : (slots id : ℕ) (me : Me (SlotContent Q A) (SeatView K Q)) (xs : List (ℕ × SlotContent Q A))
      → id ≡ 0 → me ≡ (seat_view key Idle, xs)
      → Allows (SlotRule MayRequest Replies key) slots id me 8 (λ _. 4) (λ _ w. w ≡ me)
  client-closes slots id me xs at_first is =
      subst (λ (z : ℕ × Me (SlotContent Q A) (SeatView K Q)).
      Allows (SlotRule MayRequest Replies key) slots z.0 z.1 8 (λ _. 4) (λ _ w. w ≡ z.1))
      (λ k. (sym at_first k, sym is k))
      (λ s r wide at _.
      let stood = stands_for_client MayRequest Replies key s r Idle at in (
        seat_view key Idle,
        keeps,
        tt,
        rule_after_client_step MayRequest Replies key s r Idle 4 s.homes r.home r.slot_is (idle_is_not_at_server MayRequest Replies key r.word r.home stood) (inr refl, stood.1),
        refl,
      ))

  pub client-takes_back : (slots id : ℕ) (me : Me (SlotContent Q A) (SeatView K Q))
      (q : Q) → id ≡ 0 → me ≡ (seat_view key (Requested q), [])
      → Allows (SlotRule MayRequest Replies key) slots id me 8 (λ n. either (eqb n 1) 0 n) (take_back_tells no_step me)
  client-takes_back slots id me q at_first is =
      subst (λ (z : ℕ × Me (SlotContent Q A) (SeatView K Q)).
      Allows (SlotRule MayRequest Replies key) slots z.0 z.1 8 (λ n. either (eqb n 1) 0 n)
      (take_back_tells no_step z.1))
      (λ k. (sym at_first k, sym is k))
      (λ s r wide at _.
      let stood = stands_for_client MayRequest Replies key s r (Requested q) at in
      let n : ℕ = slice_index s.words 8 in
      exchanged n 1 0
      (λ (m : ℕ). (v : SeatView K Q) × (a : Act (SlotContent Q A)) × Valid s.homes [] a
      × SlotRule MayRequest Replies key (stepped s 8 m 0 [] v a)
      × take_back_tells no_step (seat_view key (Requested q), []) n (v, carried_after [] a))
      (λ hit.
      let one : r.word ≡ 1 = sym r.word_is ∙ hit in (
        seat_view key Idle,
        takes 0 (Request q),
        r.slot_is ∙ ap some (slot_has_request MayRequest Replies key q r.word r.home stood.1 one),
        rule_after_client_step MayRequest Replies key s r Idle 0 (set s.homes 0 none) none (set_there s.homes 0 r.home none r.slot_is)
            (λ e. absurd (omega (arith, one, e))) (inl refl, refl),
        (q, refl, (λ _. refl), (λ miss. absurd (miss hit))),
      ))
      (λ miss. (
        seat_view key (Requested q),
        keeps,
        tt,
        rule_after_no_change MayRequest Replies key s 0 (seat_view key (Requested q)) r at,
        (q, refl, (λ hit. absurd (miss hit)), (λ _. refl)),
      )))

  pub client-takes_reply : (slots id : ℕ) (me : Me (SlotContent Q A) (SeatView K Q))
      (q : Q) → id ≡ 0 → me ≡ (seat_view key (Requested q), [])
      → Allows (SlotRule MayRequest Replies key) slots id me 8 (λ n. either (eqb n 3) 0 n)
      (take_reply_tells Replies no_step me)
  client-takes_reply slots id me q at_first is =
      subst (λ (z : ℕ × Me (SlotContent Q A) (SeatView K Q)).
      Allows (SlotRule MayRequest Replies key) slots z.0 z.1 8 (λ n. either (eqb n 3) 0 n)
      (take_reply_tells Replies no_step z.1))
      (λ k. (sym at_first k, sym is k))
      (λ s r wide at _.
      let stood = stands_for_client MayRequest Replies key s r (Requested q) at in
      let n : ℕ = slice_index s.words 8 in
      exchanged n 3 0
      (λ (m : ℕ). (v : SeatView K Q) × (a : Act (SlotContent Q A)) × Valid s.homes [] a
      × SlotRule MayRequest Replies key (stepped s 8 m 0 [] v a)
      × take_reply_tells Replies no_step (seat_view key (Requested q), []) n (v, carried_after [] a))
      (λ hit.
      let has_reply : r.word ≡ 3 = sym r.word_is ∙ hit in
      let got = slot_has_reply MayRequest Replies key q r.word r.home stood.1 has_reply in (
        seat_view key Idle,
        takes 0 (Reply got.0),
        r.slot_is ∙ ap some got.1,
        rule_after_client_step MayRequest Replies key s r Idle 0 (set s.homes 0 none) none (set_there s.homes 0 r.home none r.slot_is)
            (λ e. absurd (omega (arith, has_reply, e))) (inl refl, refl),
        (q, refl, (λ _. (got.0, got.2, refl)), (λ miss. absurd (miss hit))),
      ))
      (λ miss. (
        seat_view key (Requested q),
        keeps,
        tt,
        rule_after_no_change MayRequest Replies key s 0 (seat_view key (Requested q)) r at,
        (q, refl, (λ hit. absurd (miss hit)), (λ _. refl)),
      )))
