-- What an actor remembers stays right over its events and looks.
use Rattle.std.proofs.Common.{◌≡◌, ◌≢◌, ◌↔◌, ℕ, ◌+◌, ◌*◌, ◌^◌, ◌-◌, ◌<◌, ◌≤◌, ◌==◌, nat_lt, min}
use Rattle.std.proofs.Common.{Bool, true, false, List, [], ◌∷◌, ◌++◌, length, refl, sym, ap, ◌∙◌}
use Rattle.std.proofs.Common.{subst, arith, Option, Some, None}
use Rattle.std.proofs.lemmas.List.Sums.{sum_by_push}
use Rattle.std.proofs.lemmas.Bool.Decides.{nat_tests}
use Rattle.aio_word.specs.declared.Config.{Config}
use Rattle.aio_word.specs.declared.Step.{Step as Event}
use Rattle.aio_word.specs.declared.Step.TheVariants as event
use Rattle.aio_word.specs.declared.Kind.{Kind}
use Rattle.aio_word.specs.declared.Kind.TheVariants as kind
use Rattle.aio_word.specs.declared.Mark.{Mark}
use Rattle.aio_word.specs.declared.Word.{Word}
use Rattle.aio_word.specs.declared.Known.{Known}
use Rattle.aio_word.specs.Events.{kind_place, count_at_rank, wait_ref, lives_ended, kind_of_step}
use Rattle.aio_word.specs.Events.{with_mark}
use Rattle.aio_word.specs.Stands.{one_if}
use Rattle.aio_word.specs.Tokens.{is_claim, claimed_mark_count}
use Rattle.aio_word.proofs.AppendKeepsHandle.{mark_by_parts, count_at_rank-push}
use Rattle.aio_handle.specs.declared.own_handles.OwnHandle.{OwnHandle}
use Rattle.aio_handle.specs.LifeWords.{handed_out_word, unclaimed_word, claimed_word, idle_word}
use Rattle.aio_handle.specs.CallEvents.{EventMade, WordLoaded, generation_of}
use Rattle.aio_handle.specs.FreeHandles.{HasOneOut}
use Rattle.aio_handle.specs.OwnHandleCache.{own_handle, handle_at, MatchesOwnHandles}
use Rattle.aio_handle.specs.OwnHandleCache.{CachesOwnHandles}
use Rattle.aio_handle.proofs.LivesCounted.{lives_ended-same}
use Rattle.aio_handle.proofs.PlainEvents.{IsPlain, plain-kind, plain-out}
use Rattle.aio_handle.proofs.OnlyPastReclaimedAfterMark.{rank-else, only-past-same}
use Rattle.aio_handle.proofs.OnlyPastReclaimedAfterMark.{only-past-marked}
use Rattle.aio_handle.proofs.WordFromMarks.{none-some}

pub claim-no : (k : Kind) → kind_place k ≢ 3 → one_if (kind_place k == 3) ≡ 0
claim-no k ne = grind (arith, nat_tests)

pub claims-push : (h g : ℕ) (k : Kind) (ms : List Mark)
    → claimed_mark_count (ms ++ mark_by_parts h g k ∷ []) ≡ claimed_mark_count ms
    + one_if (kind_place k == 3)
claims-push h g k ms = sum_by_push (λ (m : Mark). one_if (is_claim m)) ms (mark_by_parts h g k)

pub same-handle : (c : Config) (p q : Known) (h : ℕ) → lives_ended h q.marks ≡ lives_ended h p.marks
    → ((n : ℕ) → count_at_rank h (8 * n + 0) q.marks ≡ count_at_rank h (8 * n + 0) p.marks)
    → own_handle c q h ≡ own_handle c p h
same-handle c p q h el et =
    let eg : generation_of c q h ≡ generation_of c p h = ap (λ (z : ℕ). c.start + z) el in
    let at-generation : ℕ → ℕ → OwnHandle =
    λ n t. record { generation = n; is_defined = nat_lt 0 t } in
    (λ k. at-generation (eg k) (count_at_rank h (8 * eg k + 0) q.marks)) ∙ ap
    (at-generation (generation_of c p h)) (et (generation_of c p h))

owns-same : (c : Config) (own : List OwnHandle) (p q : Known) → q.number ≡ p.number
    → ((h : ℕ) → own_handle c q h ≡ own_handle c p h) → MatchesOwnHandles c own p
    → MatchesOwnHandles c own q
owns-same c own p q en el o = record {
  of_backend = λ lt. o.of_backend (subst (λ (z : ℕ). z < c.backends) en lt);
  of_runner = λ le. o.of_runner (subst (λ (z : ℕ). c.backends ≤ z) en le);
  each = λ k lt. o.each k lt ∙
      (sym (el (handle_at c p k)) ∙ ap (λ (z : ℕ). own_handle c q (z * c.per_backend + k))
      (sym en));
  bound = o.bound;
}

pub out-same : (b : Bool) (p q : Known) → q.out ≡ p.out → (b ≡ true) ↔ HasOneOut p → (b ≡ true)
    ↔ HasOneOut q
out-same b p q e o = ((λ x. let t = o.0 x in (t.0, e ∙ t.1)), (λ t. o.1 (t.0, sym e ∙ t.1)))

pub false-true : false ≡ true → ⊥
false-true e = cc

module _ {c : Config} {own : List OwnHandle} {turn claims : ℕ} {b : Bool} where
  pub caches-looked : {h : ℕ} {w : Word} {p q : Known} → WordLoaded h w p q
      → CachesOwnHandles c own turn b claims p → CachesOwnHandles c own turn b claims q
  caches-looked {p = p} {q = q} m r = record {
    own_handles_match = owns-same c own p q (ap (λ (z : Known). z.number) m.is)
        (λ i. ap (λ (z : Known). own_handle c z i) m.is) r.own_handles_match;
    only_past_reclaimed = only-past-same c p q (ap (λ (z : Known). z.number) m.is)
        (ap (λ (z : Known). z.marks) m.is) r.only_past_reclaimed;
    turn_in_range = r.turn_in_range;
    out = out-same b p q (ap (λ (z : Known). z.out) m.is) r.out;
    counted = r.counted ∙ ap (λ (z : Known). min (claimed_mark_count z.marks) (2 ^ 128 - 1))
        (sym m.is);
  }

  -- over an event that appends no mark
  quiet : (p q : Known) (turn' : ℕ) (b' : Bool) → turn' ≤ length own → q.number ≡ p.number
      → q.marks ≡ p.marks → (b' ≡ true) ↔ HasOneOut q → CachesOwnHandles c own turn b claims p
      → CachesOwnHandles c own turn' b' claims q
  quiet p q turn' b' le en em out r = record {
    own_handles_match = owns-same c own p q en
        (λ i. same-handle c p q i (ap (lives_ended i) em)
        (λ n. ap (count_at_rank i (8 * n + 0)) em)) r.own_handles_match;
    only_past_reclaimed = only-past-same c p q en em r.only_past_reclaimed;
    turn_in_range = le;
    out = out;
    counted = r.counted ∙ ap (λ (z : List Mark). min (claimed_mark_count z) (2 ^ 128 - 1)) (sym em);
  }

  -- over an event that appends a mark which neither begins nor ends a life
  marked : (p q : Known) (h g : ℕ) (k : Kind) (claims' : ℕ) → 0 < kind_place k → kind_place k < 7
      → q.number ≡ p.number → q.marks ≡ p.marks ++ mark_by_parts h g k ∷ [] → q.out ≡ p.out
      → claims' ≡ min (claimed_mark_count p.marks + one_if (kind_place k == 3)) (2 ^ 128 - 1)
      → CachesOwnHandles c own turn b claims p → CachesOwnHandles c own turn b claims' q
  marked p q h g k claims' lo hi en em eo ec r = record {
    own_handles_match = owns-same c own p q en
        (λ i. same-handle c p q i (ap (lives_ended i) em
        ∙ lives_ended-same i h g k p.marks (λ x. omega arith))
        (λ n. ap (count_at_rank i (8 * n + 0)) em ∙
        (let push = count_at_rank-push i (8 * n + 0) p.marks (mark_by_parts h g k) in let no =
        rank-else (h == i) (8 * g + kind_place k) (8 * n + 0) (λ x. omega arith) in
        push ∙ (omega arith)))) r.own_handles_match;
    only_past_reclaimed = only-past-marked c p q h g k hi en em r.only_past_reclaimed;
    turn_in_range = r.turn_in_range;
    out = out-same b p q eo r.out;
    counted = ec ∙ ap (λ (z : ℕ). min z (2 ^ 128 - 1))
        (sym (ap claimed_mark_count em ∙ claims-push h g k p.marks));
  }

  pub caches-plain : {e : Event} {h : ℕ} {w w' : Word} {aim : List ℕ} {p q : Known}
      → EventMade e h w w' aim p q → IsPlain e → CachesOwnHandles c own turn b claims p
      → CachesOwnHandles c own turn b claims q
  caches-plain {e = e} {h = h} {w = w} {w' = w'} {aim = aim} {p = p} {q = q} m pl r = by (kind_of_step w.class e) refl
    where
      by : (o : Option Kind) → kind_of_step w.class e ≡ o → CachesOwnHandles c own turn b claims q
      by None lv = quiet p q turn b r.turn_in_range (ap (λ (z : Known). z.number) m.is)
          (ap (λ (z : Known). z.marks) m.is ∙ ap (with_mark p.marks h w.generation) lv)
          (out-same b p q (plain-out e h w w' aim p q m pl) r.out) r
      by (Some k) lv =
          let is = plain-kind e w.class k pl lv in
          let none = claim-no k is.2 in
          marked p q h w.generation k claims is.0 is.1 (ap (λ (z : Known). z.number) m.is)
          (ap (λ (z : Known). z.marks) m.is ∙ ap (with_mark p.marks h w.generation) lv)
          (plain-out e h w w' aim p q m pl)
          (r.counted ∙ ap (λ (z : ℕ). min z (2 ^ 128 - 1))
          (let same : claimed_mark_count p.marks ≡ claimed_mark_count p.marks
          + one_if (kind_place k == 3) =
          omega arith in same)) r

  pub caches-claimed : {h g claims' : ℕ} {aim : List ℕ} {p q : Known}
      → EventMade event.Claim h (unclaimed_word g) (claimed_word g) aim p q
      → claims' ≡ min (claims + 1) (2 ^ 128 - 1) → CachesOwnHandles c own turn b claims p
      → CachesOwnHandles c own turn b claims' q
  caches-claimed {h = h} {g = g} {claims' = claims'} {p = p} {q = q} m more r = marked p q h g kind.Claimed claims' (omega arith)
      (omega arith) (ap (λ (z : Known). z.number) m.is) (ap (λ (z : Known). z.marks) m.is)
      (ap (λ (z : Known). z.out) m.is)
      (let was = r.counted in let goal : claims'
      ≡ min (claimed_mark_count p.marks + 1) (2 ^ 128 - 1) =
      omega arith in goal) r

  pub caches-handed-out : {h g turn' : ℕ} {aim : List ℕ} {p q : Known}
      → EventMade event.HandOut h (idle_word g) (handed_out_word g) aim p q → turn' ≤ length own
      → CachesOwnHandles c own turn b claims p → CachesOwnHandles c own turn' true claims q
  caches-handed-out {h = h} {g = g} {turn' = turn'} {p = p} {q = q} m le r = quiet p q turn' true le
      (ap (λ (z : Known). z.number) m.is) (ap (λ (z : Known). z.marks) m.is)
      ((λ _. (wait_ref h g, ap (λ (z : Known). z.out) m.is)), (λ _. refl)) r

  pub caches-released : {h g : ℕ} {aim : List ℕ} {p q : Known}
      → EventMade event.Release h (handed_out_word g) (idle_word g) aim p q
      → CachesOwnHandles c own turn b claims p
      → CachesOwnHandles c own turn false claims q
  caches-released {p = p} {q = q} m r = quiet p q turn false r.turn_in_range
      (ap (λ (z : Known). z.number) m.is) (ap (λ (z : Known). z.marks) m.is) (
        (λ x. absurd (false-true x)),
        (λ t. absurd (none-some t.0 (sym (ap (λ (z : Known). z.out) m.is) ∙ t.1))),
      ) r
