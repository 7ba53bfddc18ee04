-- The room that backends have.
use Rattle.std.proofs.Common.{◌≡◌, ◌⊎◌, inl, inr, ℕ, zero, suc, ◌+◌, ◌-◌, ◌^◌, ◌<◌, ◌≤◌, List, []}
use Rattle.std.proofs.Common.{◌∷◌, length, get_or, take, min, sym, ap, ◌∙◌, subst, arith}
use Rattle.std.specs.Prelude.{slice_index_or}
use Rattle.std.proofs.Math.Nat.{min-le_left, min-le_right, min-eq_left, le-min}
use Rattle.std.proofs.lemmas.List.{get_or-take, length-take, get_or_default}
use mathlib.Core.Logic.{dite}
use native.Mathlib.Decide.{ℕ_discrete, dec_le}
use Rattle.aio_word.specs.declared.Config.{Config}
use Rattle.aio_word.specs.Events.{handle_count, lives_ended, owner}
use Rattle.aio_word.specs.Words.{last_generation}
use Rattle.aio_handle.specs.CallEvents.{generation_of}
use Rattle.aio_handle.specs.FreeHandles.{IsRoom}
use Rattle.aio_handle.specs.ContractViews.{ActorView, IsSameActor}
use Rattle.aio_handle.proofs.LivesCounted.{room-is-one, room-bounded}
use Rattle.scan_rounds.specs.DiskActors.{ActorHasRoom}
use Rattle.scan_rounds.specs.Rounds.{AllBackendsHaveRoom, IsLeastRoom}
use Rattle.scan_rounds.specs.declared.backend.Backend.{Backend}

pub fewer : (n m : ℕ) (a : ActorView) → n ≤ m → ActorHasRoom m a → ActorHasRoom n a
fewer n m a le has = (has.0, has.1, omega (arith, has.2))

-- the number below n, of those that a owns, at which f is greatest
abbrev Greatest : (ℕ → ℕ) → (ℕ → ℕ) → ℕ → ℕ → Type 0
Greatest f own a n = (k : ℕ) × (k < n) × (a ≡ own k)
    × ((j : ℕ) → j < n → a ≡ own j → f j ≤ f k)

-- none, or that one
greatest_below : (f own : ℕ → ℕ) (a n : ℕ)
    → ((k : ℕ) → k < n → a ≡ own k → ⊥) ⊎ Greatest f own a n
greatest_below f own a zero = inl (λ k lt is. absurd (omega arith))
greatest_below f own a (suc n) =
    let rest = greatest_below f own a n in
    dite (ℕ_discrete a (own n)) (λ here. with_last here rest) (λ other. without other rest)
  where
    last_or : (P : ℕ → Type 0) (j : ℕ) → j < suc n → P n → (j < n → P j) → P j
    last_or P j lt last before = dite (ℕ_discrete j n) (λ e. subst P (sym e) last)
        (λ ne. before (omega arith))

    with_last : a ≡ own n → ((k : ℕ) → k < n → a ≡ own k → ⊥) ⊎ Greatest f own a n
        → ((k : ℕ) → k < suc n → a ≡ own k → ⊥) ⊎ Greatest f own a (suc n)
    with_last here (inl none) = inr (
      n,
      omega arith,
      here,
      λ j lt is.
          last_or (λ x. f x ≤ f n) j lt (omega arith) (λ below. absurd (none j below is)),
    )
    with_last here (inr g) = dite (dec_le (f g.0) (f n))
        (λ le. inr (
          n,
          omega arith,
          here,
          λ j lt is.
              last_or (λ x. f x ≤ f n) j lt (omega arith)
              (λ below. (let less = g.3 j below is in omega arith)),
        ))
        (λ more. inr (
          g.0,
          (let below = g.1 in omega arith),
          g.2,
          λ j lt is.
              last_or (λ x. f x ≤ f g.0) j lt (omega arith) (λ below. g.3 j below is),
        ))

    without : (a ≡ own n → ⊥) → ((k : ℕ) → k < n → a ≡ own k → ⊥) ⊎ Greatest f own a n
        → ((k : ℕ) → k < suc n → a ≡ own k → ⊥) ⊎ Greatest f own a (suc n)
    without other (inl none) = inl (λ k lt.
        last_or (λ x. a ≡ own x → ⊥) k lt other (none k))
    without other (inr g) = inr (
      g.0,
      (let below = g.1 in omega arith),
      g.2,
      λ j lt.
          last_or (λ x. a ≡ own x → f x ≤ f g.0) j lt (λ is. absurd (other is)) (g.3 j),
    )

-- the same backend, some lives later
abbrev pub LivesEnded : ℕ → ActorView → ActorView → Type 0
LivesEnded most a b = IsSameActor a b × (a.known.number < a.known.config.backends)
    × ((h : ℕ) → lives_ended h b.known.marks ≤ lives_ended h a.known.marks + most)

-- what is left after lives that ended
pub left_after : (most n : ℕ) (a b : ActorView) → IsSameActor a b
    → a.known.number < a.known.config.backends → ActorHasRoom (most + n) a
    → ((h : ℕ) → lives_ended h b.known.marks ≤ lives_ended h a.known.marks + most)
    → ActorHasRoom n b
left_after most n a b same backend has lived = found (greatest_below
    (generation_of b.known.config b.known) (owner b.known.config) b.known.number
    (handle_count b.known.config))
  where
    c : b.known.config ≡ a.known.config
    c = same.1

    before : (h : ℕ) → h < handle_count b.known.config → b.known.number ≡ owner b.known.config h
        → generation_of b.known.config b.known h + n ≤ last_generation
    before h lt is =
        let inside : h < handle_count a.known.config = rw (sym c) lt in
        let own : a.known.number ≡ owner a.known.config h =
        sym same.2 ∙ (is ∙ ap (λ (x : Config). owner x h) c) in
        let f = has.1.for_each h inside own in
        let start = ap (λ (x : Config). x.start) c in
        let more = lived h in omega (arith, has.2)

    found : ((k : ℕ) → k < handle_count b.known.config → b.known.number ≡ owner b.known.config k
        → ⊥)
        ⊎ Greatest (generation_of b.known.config b.known) (owner b.known.config) b.known.number
        (handle_count b.known.config) → ActorHasRoom n b
    found (inl none) =
        let e = has.1.exact backend in
        absurd (none e.0 (rw c e.1) (same.2 ∙ (e.2 ∙ sym (ap (λ (x : Config). owner x e.0) c))))
    found (inr g) =
        let g-before = before g.0 g.1 g.2 in (
          last_generation - generation_of b.known.config b.known g.0,
          record {
            of_runner = λ runner. (let runners = ap (λ (x : Config). x.backends) c in
                let number = same.2 in absurd (omega arith));
            for_each = λ h lt own. (let less = g.3 h lt own in omega arith);
            exact = λ still. (g.0, g.1, g.2, omega arith);
          },
          omega arith,
        )

taken : {X : Type 0} (i : ℕ) (xs : List X) → i ≤ length xs → length (take i xs) ≡ i
taken i xs le = length-take i xs ∙ min-eq_left {n = i} {m = length xs} le

module _ {W D : Type 0} where
  pub least_next : (least room r i : ℕ) (bs : List (Backend W D)) (b : Backend W D)
      → i < length bs → b ≡ slice_index_or bs i b → AllBackendsHaveRoom least (take i bs)
      → IsRoom b.disk_actor.actor.known.config b.disk_actor.actor.known room → r ≡ min least room
      → AllBackendsHaveRoom r (take (i + 1) bs)
  least_next least room r i bs b lt is have own same k d below =
      let more = taken (i + 1) bs (omega arith) in
      let here = taken i bs (omega arith) in
      let left = min-le_left least room in
      let right = min-le_right least room in
      dite (ℕ_discrete k i)
      (λ last. subst (λ (x : Backend W D). ActorHasRoom r x.disk_actor.actor)
      (is ∙ (get_or_default bs i b d lt ∙ (ap (λ (n : ℕ). get_or bs n d) (sym last)
      ∙ sym (get_or-take (i + 1) bs k d (omega arith))))) (room, own, omega arith))
      (λ other.
      let front : k < i = omega arith in
      subst (λ (x : Backend W D). ActorHasRoom r x.disk_actor.actor)
      (get_or-take i bs k d front ∙ sym (get_or-take (i + 1) bs k d (omega arith)))
      (fewer r least (get_or (take i bs) k d).disk_actor.actor (omega arith)
      (have k d (omega arith))))

  pub greatest_next : (least room r i : ℕ) (bs : List (Backend W D)) (b : Backend W D)
      → i < length bs → b ≡ slice_index_or bs i b
      → ((n : ℕ) → n < 2 ^ 64 → AllBackendsHaveRoom n (take i bs) → n ≤ least)
      → IsRoom b.disk_actor.actor.known.config b.disk_actor.actor.known room → r ≡ min least room
      → (n : ℕ) → n < 2 ^ 64 → AllBackendsHaveRoom n (take (i + 1) bs) → n ≤ r
  greatest_next least room r i bs b lt is greatest own same n small have =
      let more = taken (i + 1) bs (omega arith) in
      let here = taken i bs (omega arith) in
      let front : n ≤ least = greatest n small (λ k d below.
      (let near : k < i = omega arith in
      subst (λ (x : Backend W D). ActorHasRoom n x.disk_actor.actor)
      (get_or-take (i + 1) bs k d (omega arith) ∙ sym (get_or-take i bs k d near))
      (have k d (omega arith)))) in
      let last : ActorHasRoom n b.disk_actor.actor =
      subst (λ (x : Backend W D). ActorHasRoom n x.disk_actor.actor)
      (get_or-take (i + 1) bs i b (omega arith) ∙ sym is) (have i b (omega arith)) in
      let one = room-is-one _ _ last.0 room last.1 own in
      let fits : n ≤ room = omega (arith, last.2) in
      let both : n ≤ min least room = le-min {k = n} {a = least} {b = room} front fits in
      omega arith

  -- of all of them
  pub least_is : (least : ℕ) (bs : List (Backend W D)) → 1 ≤ length bs → least < 2 ^ 64
      → AllBackendsHaveRoom least bs → ((n : ℕ) → n < 2 ^ 64 → AllBackendsHaveRoom n bs → n ≤ least)
      → IsLeastRoom bs least
  least_is least (b ∷ bs) some small have greatest = record {
    all_have_room = have;
    greatest = λ n all. (let one = all 0 b (omega arith) in
        let bound = room-bounded _ _ one.0 one.1 in
        greatest n (omega (arith, one.2)) all);
  }
  least_is least [] some small have greatest = absurd (omega arith)

  -- after lives that ended in each
  pub left_room : (most n k : ℕ) (bs cs : List (Backend W D)) → length cs ≡ length bs
      → ((i : ℕ) (d : Backend W D) → i < length bs
      → LivesEnded most (slice_index_or bs i d).disk_actor.actor
      (slice_index_or cs i d).disk_actor.actor)
      → AllBackendsHaveRoom n bs → IsLeastRoom cs k → n ≤ k + most
  left_room most n k bs cs same went before after = dite (dec_le n most) (λ le. omega arith)
      (λ more.
      let rooms : AllBackendsHaveRoom (n - most) cs = λ i d lt.
      (let inside : i < length bs = omega (arith, same) in
      let (still, backend, lived) = went i d inside in
      left_after most (n - most) (slice_index_or bs i d).disk_actor.actor
      (slice_index_or cs i d).disk_actor.actor still backend
      (fewer (most + (n - most)) n (slice_index_or bs i d).disk_actor.actor (omega arith)
      (before i d inside)) lived) in
      let le = after.greatest (n - most) rooms in omega arith)
