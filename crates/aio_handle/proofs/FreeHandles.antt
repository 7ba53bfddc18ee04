-- What an actor remembers tells which of its handles are free.
use Rattle.std.proofs.Common.{◌≡◌, ◌↔◌, ℕ, ◌+◌, ◌*◌, ◌%◌, ◌<◌, nat_lt, ◌⊎◌, ⊎_elim, inl, inr, Bool}
use Rattle.std.proofs.Common.{true, false, List, length, refl, sym, ap, ◌∙◌, subst, arith, Option}
use Rattle.std.proofs.Common.{Some, None}
use Rattle.std.proofs.lemmas.Bool.Decides.{nat_tests}
use mathlib.Core.Logic.{dite}
use native.Mathlib.Decide.{dec_le}
use Rattle.aio_word.specs.declared.Config.{Config}
use Rattle.aio_word.specs.declared.WaitRef.{WaitRef}
use Rattle.aio_word.specs.declared.Known.{Known}
use Rattle.aio_word.specs.Words.{last_generation}
use Rattle.aio_word.specs.Events.{handle_count, count_at_rank, wait_ref}
use Rattle.aio_handle.specs.declared.own_handles.OwnHandle.{OwnHandle}
use Rattle.aio_handle.specs.CallEvents.{generation_of}
use Rattle.aio_handle.specs.FreeHandles.{IsFree, HasOneOut, HasNoneFree, IsRoom}
use Rattle.aio_handle.specs.OwnHandles.{own_at, IsFreeHandle, HasRoom}
use Rattle.aio_handle.specs.OwnHandleCache.{own_handle, handle_at, MatchesOwnHandles}
use Rattle.aio_handle.specs.OwnHandleCache.{OnlyPastReclaimed}
use Rattle.aio_handle.proofs.CacheAfterEvents.{false-true}
use Rattle.std.proofs.Common.{◌/◌, ◌≤◌}
use Rattle.std.proofs.lemmas.Nat.{div_below, mod_below, div-mul-add}
use Rattle.std.proofs.Math.Nat.{mul-le-mul_right, div-add-mod}
use native.Mathlib.Decide.{ℕ_discrete}
use Rattle.aio_word.specs.declared.Step.{Step as Event}
use Rattle.aio_word.specs.declared.Word.{Word}
use Rattle.aio_word.specs.Events.{owner}
use Rattle.aio_handle.specs.CallEvents.{EventMade, IsByOwner}

-- the place of an own handle
pub place-of : (c : Config) (p : Known) (h : ℕ) → p.number ≡ owner c h → h < handle_count c
    → (h % c.per_backend < c.per_backend) × (h ≡ handle_at c p (h % c.per_backend))
    × (p.number < c.backends)
place-of c p h own lt =
    let some' : 0 < c.per_backend = dite (ℕ_discrete c.per_backend 0)
    (λ e. absurd (let none : c.backends * c.per_backend ≡ c.backends * 0 = ap
    (λ (z : ℕ). c.backends * z) e in omega arith)) (λ ne. omega arith) in
    let split = div-add-mod h c.per_backend in
    let quotient : c.per_backend * (h / c.per_backend) ≡ p.number * c.per_backend = ap
    (λ (z : ℕ). c.per_backend * z) (sym own) ∙
    (let swap : c.per_backend * p.number ≡ p.number * c.per_backend = omega arith in swap) in (
      mod_below h c.per_backend some',
      omega arith,
      subst (λ (z : ℕ). z < c.backends) (sym own) (div_below h c.per_backend c.backends some' lt),
    )

-- an owner's event is at a place that it remembers
pub owner-place : {c : Config} {own : List OwnHandle} {e : Event} {h : ℕ} {w w' : Word}
    {aim : List ℕ} {p q : Known} → EventMade e h w w' aim p q → IsByOwner e → p.config ≡ c
    → h < handle_count c → MatchesOwnHandles c own p
    → (h % c.per_backend < length own) × (h ≡ handle_at c p (h % c.per_backend))
owner-place {c = c} {own = own} {e = e} {h = h} {p = p} m by cf lt o =
    let (inside, at, backend) = place-of c p h
    (subst (λ (z : Config). p.number ≡ owner z h) cf (m.by_owner by)) lt in
    let len = o.of_backend backend in (omega arith, at)

-- and at each place of a backend there is an own handle
pub own-at-place : (c : Config) (p : Known) (k : ℕ) → k < c.per_backend → p.number < c.backends
    → (handle_at c p k < handle_count c) × (owner c (handle_at c p k) ≡ p.number)
own-at-place c p k lt backend =
    let most : (p.number + 1) * c.per_backend ≤ c.backends * c.per_backend =
    mul-le-mul_right c.per_backend (omega arith) in
    let split : (p.number + 1) * c.per_backend ≡ p.number * c.per_backend + c.per_backend =
    omega arith in (omega arith, div-mul-add p.number c.per_backend k lt)

out-cases : (o : Option WaitRef) → (o ≡ None) ⊎ ((t : WaitRef) × (o ≡ Some t))
out-cases None = inl refl
out-cases (Some t) = inr (t, refl)

-- where the actor does not remember a handle that is out, none is
pub none-out : (b : Bool) (p : Known) → (b ≡ true) ↔ HasOneOut p → b ≡ false → p.out ≡ None
none-out b p o un = ⊎_elim (λ e. e) (λ t. absurd (false-true (sym un ∙ o.1 t))) (out-cases p.out)

nothing-below : (n : ℕ) → nat_lt 0 n ≡ false → n ≡ 0
nothing-below n e = grind (arith, nat_tests)

below-nothing : (n : ℕ) → n ≡ 0 → nat_lt 0 n ≡ false
below-nothing n e = grind (arith, nat_tests)

-- a handle that is remembered as free is free
pub tells-free : (c : Config) (own : List OwnHandle) (p : Known) (k : ℕ) → MatchesOwnHandles c own p
    → k < length own → p.number < c.backends → IsFreeHandle (own_at own k)
    → (handle_at c p k < handle_count c)
    × IsFree c p (wait_ref (handle_at c p k) (own_at own k).generation)
tells-free c own p k o lt backend (undefined, below) =
    let len = o.of_backend backend in
    let inside = own-at-place c p k (omega arith) backend in
    let h : ℕ = handle_at c p k in
    let is = o.each k lt in
    let same : (own_at own k).generation ≡ generation_of c p h = ap
    (λ (x : OwnHandle). x.generation) is in
    let none : count_at_rank h (8 * generation_of c p h + 0) p.marks ≡ 0 = nothing-below
    (count_at_rank h (8 * generation_of c p h + 0) p.marks)
    (sym (ap (λ (x : OwnHandle). x.is_defined) is) ∙ undefined) in (
      inside.0,
      record {
        own = sym inside.1;
        generation = same;
        undefined = subst (λ (z : ℕ). count_at_rank h (8 * z + 0) p.marks ≡ 0) (sym same) none;
        below = below;
      },
    )

-- and a free handle is remembered so
pub free-told : (c : Config) (own : List OwnHandle) (p : Known) (t : WaitRef)
    → MatchesOwnHandles c own p
    → t.handle < handle_count c → IsFree c p t → (t.handle % c.per_backend < length own)
    × IsFreeHandle (own_at own (t.handle % c.per_backend))
free-told c own p t o lt f =
    let k : ℕ = t.handle % c.per_backend in
    let (inside, at, backend) = place-of c p t.handle f.own lt in
    let len : length own ≡ c.per_backend = o.of_backend backend in
    let lk : k < length own = omega arith in
    let is : own_at own k ≡ own_handle c p t.handle = o.each k lk ∙ ap (own_handle c p) (sym at) in
    let gen : generation_of c p t.handle ≡ t.generation = sym f.generation in
    let undefined : nat_lt 0 (count_at_rank t.handle (8 * generation_of c p t.handle + 0) p.marks)
    ≡ false =
    below-nothing (count_at_rank t.handle (8 * generation_of c p t.handle + 0) p.marks)
    (subst (λ (z : ℕ). count_at_rank t.handle (8 * z + 0) p.marks ≡ 0) (sym gen) f.undefined) in (
      lk,
      (
        ap (λ (x : OwnHandle). x.is_defined) is ∙ undefined,
        subst (λ (z : ℕ). z < last_generation)
            (sym (ap (λ (x : OwnHandle). x.generation) is ∙ gen)) f.below,
      ),
    )

-- where no remembered handle is free, each is in the middle of a life or at the end
pub none-told : (c : Config) (own : List OwnHandle) (p : Known) → MatchesOwnHandles c own p
    → OnlyPastReclaimed c p
    → ((k : ℕ) → k < length own → IsFreeHandle (own_at own k) → ⊥) → HasNoneFree c p
none-told c own p o u none h lt own-h =
    let t : WaitRef = wait_ref h (generation_of c p h) in
    let only_past_reclaimed : count_at_rank h (8 * generation_of c p h + 7) p.marks ≡ 0 =
    u h (generation_of c p h) own-h (omega arith) in
    dite (dec_le last_generation (generation_of c p h)) (λ le. inl le)
    (λ below. dite (dec_le (count_at_rank h (8 * generation_of c p h + 0) p.marks) 0)
    (λ z. absurd
    (let (lk, free) = free-told c own p t o lt record {
      own = own-h;
      generation = refl;
      undefined = omega arith;
      below = omega arith;
    } in none (h % c.per_backend) lk free))
    (λ pos. inr (omega arith, only_past_reclaimed)))

-- the room of the remembered handles is that of the actor
pub room-told : (c : Config) (own : List OwnHandle) (p : Known) (room : ℕ) → 0 < c.per_backend
    → MatchesOwnHandles c own p → HasRoom own room → IsRoom c p room
room-told c own p room some' o r = record {
  of_runner = λ le. r.none (o.of_runner le);
  for_each = λ h lt own-h.
      let (inside, at, backend) = place-of c p h own-h lt in
      let len = o.of_backend backend in
      let lk : h % c.per_backend < length own = omega arith in
      let is : (own_at own (h % c.per_backend)).generation ≡ generation_of c p h = ap
      (λ (x : OwnHandle). x.generation) (o.each (h % c.per_backend) lk) ∙ ap (generation_of c p)
      (sym at) in
      let le = r.for_each (h % c.per_backend) lk in omega arith;
  exact = λ backend.
      let len = o.of_backend backend in
      let (k, lk, is) = r.exact (omega arith) in
      let inside = own-at-place c p k (omega arith) backend in
      let same : (own_at own k).generation ≡ generation_of c p (handle_at c p k) = ap
      (λ (x : OwnHandle). x.generation) (o.each k lk) in (
        handle_at c p k,
        inside.0,
        sym inside.1,
        omega arith,
      );
}
