-- What an actor remembers stays right over a call's step, from what the step tells.
use Rattle.std.proofs.Common.{◌≡◌, ◌≢◌, ℕ, ◌+◌, ◌-◌, ◌^◌, min, Bool}
use Rattle.std.proofs.Common.{List, [], ◌∷◌, sym, ap, ◌∙◌, subst, Option}
use Rattle.atomic_table.specs.Table.{Me, Step}
use Rattle.aio_word.specs.declared.Config.{Config}
use Rattle.aio_word.specs.declared.Known.{Known}
use Rattle.aio_handle.specs.declared.record.Label.{Label}
use Rattle.aio_handle.specs.declared.own_handles.OwnHandle.{OwnHandle}
use Rattle.aio_handle.specs.Seats.{IsSeated, seat_known}
use Rattle.aio_handle.specs.Steps.{Claims, TakesCompleted, StepLoadsWord}
use Rattle.aio_handle.specs.OwnHandleCache.{CachesOwnHandles}
use Rattle.aio_handle.proofs.CallSteps.{looks-seated}
use Rattle.aio_handle.proofs.CacheAfterEvents.{caches-plain, caches-looked, caches-claimed}

module _ {c : Config} {own : List OwnHandle} {turn claims : ℕ} {b : Bool} where
  -- over a step from what one seat knows to what it knows then
  across : {claims' : ℕ} {p q : Known} {v v' : List Known} → v ≡ p ∷ [] → v' ≡ q ∷ []
      → (CachesOwnHandles c own turn b claims p → CachesOwnHandles c own turn b claims' q)
      → CachesOwnHandles c own turn b claims (seat_known v)
      → CachesOwnHandles c own turn b claims' (seat_known v')
  across {claims' = claims'} mine then goes r =
      subst (λ (z : Known). CachesOwnHandles c own turn b claims' z) (sym (ap seat_known then))
      (goes (subst (λ (z : Known). CachesOwnHandles c own turn b claims z) (ap seat_known mine) r))

  -- and the seat stays the actor's
  pub seat-after-load : {R X : Type 0} {st : Step (Option R)} {n number : ℕ}
      {m m' : Me (Option R) (List Known)}
      → IsSeated c number m × X × CachesOwnHandles c own turn b claims (seat_known m.0)
      → StepLoadsWord st m n m'
      → IsSeated c number m' × X × CachesOwnHandles c own turn b claims (seat_known m'.0)
  seat-after-load (seat, x, r) d = (
    looks-seated seat d,
    x,
    across d.by_owner (ap (λ (z : Me (Option _) (List Known)). z.0) d.then)
        (caches-looked d.loaded.2) r,
  )

  module _ {R : Type 0} {label : R → Label} {aim_in : R → List ℕ} {Fits : R → Type 0}
      {st : Step (Option R)} {found : ℕ} {m m' : Me (Option R) (List Known)} where
    pub caches-lost-claim : Claims label aim_in Fits st m found m' → found ≢ st.first
        → CachesOwnHandles c own turn b claims (seat_known m.0)
        → CachesOwnHandles c own turn b claims (seat_known m'.0)
    caches-lost-claim t miss = let (then, (w, n, lk)) = t.lost miss in
        across t.by_owner (ap (λ (z : Me (Option R) (List Known)). z.0) then) (caches-looked lk)

    pub caches-won-claim : {claims' : ℕ} {v : List Known} → Claims label aim_in Fits st m found m'
        → found ≡ st.first → claims' ≡ min (claims + 1) (2 ^ 128 - 1) → v ≡ m'.0
        → CachesOwnHandles c own turn b claims (seat_known m.0)
        → CachesOwnHandles c own turn b claims' (seat_known v)
    caches-won-claim t hit more same = let (g, (r, n, then, md, l, f)) = t.won hit in
        across t.by_owner (same ∙ ap (λ (z : Me (Option R) (List Known)). z.0) then)
        (caches-claimed md more)

    pub caches-taken-result : {v : List Known} → TakesCompleted label aim_in Fits st m found m'
        → v ≡ m'.0 → CachesOwnHandles c own turn b claims (seat_known m.0)
        → CachesOwnHandles c own turn b claims (seat_known v)
    caches-taken-result t same =
        across t.by_owner (same ∙ ap (λ (z : Me (Option R) (List Known)). z.0) t.then)
        (caches-plain t.event_made tt)
