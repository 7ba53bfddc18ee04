-- Whether a backend has a handle that is handed out, by its own words.
use Rattle.std.proofs.Common.{◌≡◌, ◌≢◌, ℕ, ◌+◌, ◌*◌, ◌/◌, ◌%◌, ◌<◌, ◌≤◌, Bool, true, false, List}
use Rattle.std.proofs.Common.{refl, sym, ap, ◌∙◌, subst, arith, Some, slice_get}
use Rattle.std.proofs.Math.Nat.{mul-le-mul_right, mul_comm, div-add-mod, mod-lt, div-eq_of_lt-le}
use Rattle.aio_word.specs.declared.Config.{Config}
use Rattle.aio_word.specs.declared.State.TheVariants.{HandedOut}
use Rattle.aio_word.specs.declared.Word.{Word}
use Rattle.aio_word.specs.Events.{owner, has_handed_out_from}
use Rattle.aio_word.proofs.EventEffect.{get-at}
use Rattle.aio_word.proofs.NoneHandedOut.{none-out, all-free}
use Rattle.aio_word.proofs.StepIsMachineStep.{at-get}

by-bool : (b : Bool) → (b ≡ false → ⊥) → b ≡ true
by-bool true h = refl
by-bool false h = absurd (h refl)

pub out-here : (c : Config) (backend h : ℕ) (ws : List Word) (w : Word) → slice_get ws h ≡ Some w
    → owner c h ≡ backend → w.state ≡ HandedOut → has_handed_out_from c backend 0 ws ≡ true
out-here c backend h ws w at own out = by-bool (has_handed_out_from c backend 0 ws)
    (λ none. none-out c backend 0 ws none h w (get-at ws h w at)
    (ap (owner c) (let z : 0 + h ≡ h = omega arith in z) ∙ own) out)

-- the handles of a backend are those from its first one on, as many as each owns
pub within : (n b k : ℕ) → 0 < k → n / k ≡ b → (b * k ≤ n) × (n < b * k + k)
within n b k pos e =
    let a = div-add-mod n k in let lt = mod-lt n pos in
    let q : k * b + n % k ≡ n = subst (λ (z : ℕ). k * z + n % k ≡ n) e a in
    let turn : k * b ≡ b * k = mul_comm k b in (omega arith, omega arith)

add-mul : (b k : ℕ) → (b + 1) * k ≡ b * k + k
add-mul b k = grind arith

pub owned-by : (n b k : ℕ) → b * k ≤ n → n < b * k + k → n / k ≡ b
owned-by n b k lo hi = div-eq_of_lt-le k lo (let e = add-mul b k in omega arith)

pub none-here : (c : Config) (backend : ℕ) (ws : List Word) → 0 < c.per_backend
    → ((i : ℕ) (w : Word) → backend * c.per_backend ≤ i
    → i < backend * c.per_backend + c.per_backend → slice_get ws i ≡ Some w
    → w.state ≢ HandedOut)
    → has_handed_out_from c backend 0 ws ≡ false
none-here c backend ws pos each = all-free c backend 0 ws (λ i w at own out.
    let range = within i backend c.per_backend pos (ap (owner c) (let z : i ≡ 0 + i = omega arith in
    z) ∙ own) in
    each i w range.0 range.1 (at-get ws i w at) out)

add-more : (b n k : ℕ) → b < n → b * k + k ≤ n * k
add-more b n k lt = let more = mul-le-mul_right k lt in let e = add-mul b k in omega arith

-- the handles of a backend are within all
pub within-all : (b n k h : ℕ) → b < n → h < b * k + k → h < n * k
within-all b n k h lt le = let a = add-more b n k lt in omega arith

pub same-word : (ws : List Word) (i j : ℕ) (v w : Word) → i ≡ j → slice_get ws i ≡ Some v
    → slice_get ws j ≡ Some w → v ≡ w
same-word ws i j v w e at there = let x : Some v ≡ Some w = sym at
    ∙ (ap (slice_get ws) e ∙ there) in cc
