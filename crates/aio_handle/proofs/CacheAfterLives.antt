-- What an actor remembers stays right where a life of its handle begins or ends.
use Rattle.std.proofs.Common.{◌≡◌, ◌≢◌, ℕ, ◌+◌, ◌*◌, ◌^◌, ◌-◌, ◌<◌, ◌≤◌, ◌==◌, nat_lt, min, Bool}
use Rattle.std.proofs.Common.{true, false, List, [], ◌∷◌, ◌++◌, length, set, length-set, sym, ap}
use Rattle.std.proofs.Common.{◌∙◌, subst, arith}
use Rattle.std.proofs.lemmas.List.{get_or-set_same, get_or-set_other}
use Rattle.std.proofs.lemmas.Bool.Decides.{nat_tests}
use mathlib.Core.Logic.{dite}
use native.Mathlib.Decide.{ℕ_discrete, dec_le}
use Rattle.aio_word.specs.declared.Config.{Config}
use Rattle.aio_word.specs.declared.Class.{Class}
use Rattle.aio_word.specs.declared.Step.TheVariants as event
use Rattle.aio_word.specs.declared.Kind.TheVariants as kind
use Rattle.aio_word.specs.declared.Known.{Known}
use Rattle.aio_word.specs.Words.{last_generation}
use Rattle.aio_word.specs.Events.{owner, count_at_rank, lives_ended}
use Rattle.aio_word.specs.Stands.{seen_rank}
use Rattle.aio_word.specs.Tokens.{MarksOnceAndSeen, claimed_mark_count}
use Rattle.aio_word.proofs.AppendKeepsHandle.{mark_by_parts, count_at_rank-push}
use Rattle.aio_handle.specs.declared.own_handles.OwnHandle.{OwnHandle}
use Rattle.aio_handle.specs.LifeWords.{handed_out_word, defined_word, taken_word, idle_word}
use Rattle.aio_handle.specs.CallEvents.{EventMade, generation_of}
use Rattle.aio_handle.specs.OwnHandles.{no_handle, own_at}
use Rattle.aio_handle.specs.OwnHandleCache.{own_handle, handle_at, MatchesOwnHandles}
use Rattle.aio_handle.specs.OwnHandleCache.{CachesOwnHandles}
use Rattle.aio_handle.proofs.LivesCounted.{lives_ended-same, lives_ended-more, lives_ended-push}
use Rattle.aio_handle.proofs.TokensAfterEvent.{marks-once-on, stands-new}
use Rattle.aio_handle.proofs.OnlyPastReclaimedAfterMark.{handle-else, only-past-marked}
use Rattle.aio_handle.proofs.OnlyPastReclaimedAfterMark.{only-past-reclaimed}
use Rattle.aio_handle.proofs.CacheAfterEvents.{claim-no, claims-push, same-handle, out-same}
use Rattle.aio_handle.proofs.CacheAfterEvents.{false-true}
use Rattle.aio_handle.proofs.WordFromMarks.{none-some}

module _ {c : Config} {own : List OwnHandle} where
  -- what is remembered of the event's own handle is written
  written : (p q : Known) (k : ℕ) (x : OwnHandle) → k < length own → q.number ≡ p.number
      → x.generation ≤ last_generation → x ≡ own_handle c q (handle_at c p k)
      → ((i : ℕ) → i ≢ handle_at c p k → own_handle c q i ≡ own_handle c p i)
      → MatchesOwnHandles c own p
      → MatchesOwnHandles c (set own k x) q
  written p q k x lt en le here else o =
      let len = length-set own k x in record {
        of_backend = λ l. len ∙ o.of_backend (subst (λ (z : ℕ). z < c.backends) en l);
        of_runner = λ l. len ∙ o.of_runner (subst (λ (z : ℕ). c.backends ≤ z) en l);
        each = λ j lj. dite (ℕ_discrete j k)
            (λ e. subst (λ (z : ℕ). own_at (set own k x) z ≡ own_handle c q
            (q.number * c.per_backend + z)) (sym e)
            (get_or-set_same own k x no_handle lt ∙
            (here ∙ ap (λ (z : ℕ). own_handle c q (z * c.per_backend + k)) (sym en))))
            (λ ne. get_or-set_other own k j x no_handle ne ∙
            (o.each j (omega arith) ∙
            (sym (else (handle_at c p j) (λ y. ne (omega arith))) ∙ ap
            (λ (z : ℕ). own_handle c q (z * c.per_backend + j)) (sym en))));
        bound = λ j lj. dite (ℕ_discrete j k)
            (λ e. subst (λ (z : ℕ). (own_at (set own k x) z).generation ≤ last_generation) (sym e)
            (subst (λ (y : OwnHandle). y.generation ≤ last_generation)
            (sym (get_or-set_same own k x no_handle lt)) le))
            (λ ne. subst (λ (y : OwnHandle). y.generation ≤ last_generation)
            (sym (get_or-set_other own k j x no_handle ne)) (o.bound j (omega arith)));
      }

module _ {c : Config} {own : List OwnHandle} {turn claims : ℕ} {b : Bool} where
  pub caches-defined : {h g k : ℕ} {aim : List ℕ} {p q : Known}
      → EventMade event.Define h (handed_out_word g) (defined_word g) aim p q → p.config ≡ c
      → MarksOnceAndSeen (seen_rank p) p.marks → h ≡ handle_at c p k → k < length own
      → g < last_generation
      → CachesOwnHandles c own turn b claims p
      → CachesOwnHandles c
      (set own k record { generation = g; is_defined = true }) turn false claims q
  caches-defined {h = h} {g = g} {k = k} {aim = aim} {p = p} {q = q} m cf kp at lt below r =
      let own-h : p.number ≡ owner p.config h = m.by_owner tt in
      let gen : g ≡ generation_of c p h = subst (λ (z : Config). g ≡ generation_of z p h) cf
      (m.own_generation own-h) in
      let marks : q.marks ≡ p.marks ++ mark_by_parts h g kind.Defined ∷ [] = ap
      (λ (z : Known). z.marks) m.is in
      let same : generation_of c q h ≡ g = ap (λ (z : ℕ). c.start + z)
      (ap (lives_ended h) marks ∙ lives_ended-same h h g kind.Defined p.marks
      (λ x. omega arith)) ∙ sym gen in
      let some' : 0 < count_at_rank h (8 * g + 0) q.marks =
      subst (λ z. 0 < count_at_rank h (8 * g + 0) z)
      (sym marks) (stands-new (seen_rank p) h g kind.Defined p.marks kp m.before) in
      let is : nat_lt 0 (count_at_rank h (8 * g + 0) q.marks) ≡ true = grind (arith, nat_tests) in
      let here : own_handle c q h ≡ record { generation = g; is_defined = true } =
      (λ i. record {
        generation = same i;
        is_defined =
            nat_lt 0 (count_at_rank h (8 * same i + 0) q.marks);
      }) ∙ ap
      (λ (z : Bool). record { generation = g; is_defined = z }) is in
      let none = claim-no kind.Defined (λ x. omega arith) in record {
        own_handles_match = written p q k record { generation = g; is_defined = true } lt
            (ap (λ (z : Known). z.number) m.is) (omega arith)
            (subst (λ (z : ℕ). record { generation = g; is_defined = true } ≡ own_handle c q z) at
            (sym here))
            (λ i ne. same-handle c p q i
            (ap (lives_ended i) marks ∙ lives_ended-same i h g kind.Defined p.marks
            (λ x. omega arith))
            (λ n. ap (count_at_rank i (8 * n + 0)) marks ∙
            (let push = count_at_rank-push i (8 * n + 0) p.marks (mark_by_parts h g kind.Defined) in
            let no =
            handle-else i h (8 * g + 0 == 8 * n + 0) (λ x. ne (x ∙ at)) in
            push ∙ (omega arith)))) r.own_handles_match;
        only_past_reclaimed = only-past-marked c p q h g kind.Defined (omega arith)
            (ap (λ (z : Known). z.number) m.is) marks r.only_past_reclaimed;
        turn_in_range = subst (λ (z : ℕ). turn ≤ z)
            (sym (length-set own k record { generation = g; is_defined = true })) r.turn_in_range;
        out = (
          (λ x. absurd (false-true x)),
          (λ t. absurd (none-some t.0 (sym (ap (λ (z : Known). z.out) m.is) ∙ t.1))),
        );
        counted = r.counted ∙ ap (λ (z : ℕ). min z (2 ^ 128 - 1))
            (sym (ap claimed_mark_count marks ∙
            (claims-push h g kind.Defined p.marks ∙ (omega arith))));
      }

  pub caches-reclaimed : {h g k : ℕ} {class : Class} {aim : List ℕ} {p q : Known}
      → EventMade event.Reclaim h (taken_word class g) (idle_word (g + 1)) aim p q → p.config ≡ c
      → MarksOnceAndSeen (seen_rank p) p.marks → h ≡ handle_at c p k → k < length own
      → g < last_generation
      → CachesOwnHandles c own turn b claims p
      → CachesOwnHandles c
      (set own k record { generation = g + 1; is_defined = false }) turn b claims q
  caches-reclaimed {h = h} {g = g} {k = k} {class = class} {aim = aim} {p = p} {q = q} m cf kp at lt below r =
      let own-h : p.number ≡ owner p.config h = m.by_owner tt in
      let gen : g ≡ generation_of c p h = subst (λ (z : Config). g ≡ generation_of z p h) cf
      (m.own_generation own-h) in
      let marks : q.marks ≡ p.marks ++ mark_by_parts h g kind.Reclaimed ∷ [] = ap
      (λ (z : Known). z.marks) m.is in
      let more : lives_ended h q.marks ≡ lives_ended h p.marks + 1 = ap
      (lives_ended h) marks ∙ lives_ended-more h g p.marks in
      let same : generation_of c q h ≡ g + 1 = omega arith in
      let now : seen_rank q h ≡ 8 * (g + 1) + 0 = m.now in
      let none' : count_at_rank h (8 * (g + 1) + 0) q.marks ≡ 0 = dite
      (dec_le (count_at_rank h (8 * (g + 1) + 0) q.marks) 0) (λ x. omega arith)
      (λ n. absurd (let y =
      (marks-once-on event.Reclaim h (taken_word class g) (idle_word (g + 1)) aim p q m kp).below h
      (8 * (g + 1) + 0) (omega arith) in omega arith)) in
      let is : nat_lt 0 (count_at_rank h (8 * (g + 1) + 0) q.marks)
      ≡ false = grind (arith, nat_tests) in
      let here : own_handle c q h ≡ record { generation = g + 1; is_defined = false } =
      (λ i. record {
        generation = same i;
        is_defined =
            nat_lt 0 (count_at_rank h (8 * same i + 0) q.marks);
      }) ∙ ap
      (λ (z : Bool). record { generation = g + 1; is_defined = z }) is in
      let none = claim-no kind.Reclaimed (λ x. omega arith) in record {
        own_handles_match = written p q k record { generation = g + 1; is_defined = false } lt
            (ap (λ (z : Known). z.number) m.is) (omega arith)
            (subst (λ (z : ℕ). record { generation = g + 1; is_defined = false }
            ≡ own_handle c q z) at (sym here))
            (λ i ne. same-handle c p q i
            (ap (lives_ended i) marks ∙
            (let push = lives_ended-push i h g kind.Reclaimed p.marks in let no =
            handle-else i h (7 == 7) (λ x. ne (x ∙ at)) in push ∙ (omega arith)))
            (λ n. ap (count_at_rank i (8 * n + 0)) marks ∙
            (let push = count_at_rank-push i (8 * n + 0) p.marks
            (mark_by_parts h g kind.Reclaimed) in let no =
            handle-else i h (8 * g + 7 == 8 * n + 0) (λ x. ne (x ∙ at)) in
            push ∙ (omega arith)))) r.own_handles_match;
        only_past_reclaimed = only-past-reclaimed c p q h g (ap (λ (z : Known). z.number) m.is) marks gen
            r.only_past_reclaimed;
        turn_in_range = subst (λ (z : ℕ). turn ≤ z)
            (sym (length-set own k record { generation = g + 1; is_defined = false })) r.turn_in_range;
        out = out-same b p q (ap (λ (z : Known). z.out) m.is) r.out;
        counted = r.counted ∙ ap (λ (z : ℕ). min z (2 ^ 128 - 1))
            (sym (ap claimed_mark_count marks ∙
            (claims-push h g kind.Reclaimed p.marks ∙ (omega arith))));
      }
