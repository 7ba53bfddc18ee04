-- An actor has no handle out where none of its words is HandedOut, and the other way.
use Rattle.std.proofs.Common.{◌≡◌, ℕ, zero, suc, ◌+◌, ◌==◌, ◌&&◌, ◌||◌, Bool, true, false, List, []}
use Rattle.std.proofs.Common.{◌∷◌, refl, sym, ap, ◌∙◌, arith}
use Rattle.std.proofs.lemmas.Bool.Decides.{nat_tests}
use mathlib.Core.Option.{some, some-injective, some-ne-none}
use lib.ListN.{get_elem?}
use Rattle.aio_word.specs.declared.Config.{Config}
use Rattle.aio_word.specs.declared.State.TheVariants.{HandedOut}
use Rattle.aio_word.specs.declared.Word.{Word}
use Rattle.aio_word.specs.Words.{number_of_state}
use Rattle.aio_word.specs.Events.{has_handed_out_from, owner, state_is}
use Rattle.aio_word.proofs.RowConditions.{same-state}
use Rattle.aio_word.proofs.EventEffect.{same-nat}

same-number : (a b : ℕ) → a ≡ b → (a == b) ≡ true
same-number a b e = grind (arith, nat_tests)

first-false : (a b : Bool) → (a || b) ≡ false → a ≡ true → ⊥
first-false true b e h = absurd (cc)
first-false false b e h = absurd (cc)

second-false : (a b : Bool) → (a || b) ≡ false → b ≡ false
second-false true b e = absurd (cc)
second-false false b e = e

here-false : (a b : Bool) → (a ≡ true → b ≡ true → ⊥) → (a && b) ≡ false
here-false true true h = absurd (h refl refl)
here-false true false h = refl
here-false false b h = refl

-- no handle of the actor is out
pub none-out : (c : Config) (actor n : ℕ) (ws : List Word)
    → has_handed_out_from c actor n ws ≡ false
    → (i : ℕ) (w : Word) → get_elem? ws i ≡ some w → owner c (n + i) ≡ actor → w.state ≡ HandedOut
    → ⊥
none-out c actor n [] h i w at own out = some-ne-none w (sym at)
none-out c actor n (v ∷ ws) h zero w at own out =
    let e : v ≡ w = some-injective v w at in
    let o : (owner c n == actor) ≡ true =
    same-number (owner c n) actor (ap (owner c) (let z : n ≡ n + 0 = omega arith in z) ∙ own) in
    let q : state_is v HandedOut ≡ true =
    same-number _ _ (ap number_of_state (ap (λ (z : Word). z.state) e ∙ out)) in
    let x : ((owner c n == actor) && state_is v HandedOut) ≡ true = λ k. o k && q k in
    first-false ((owner c n == actor) && state_is v HandedOut)
    (has_handed_out_from c actor (n + 1) ws) h x
none-out c actor n (v ∷ ws) h (suc i) w at own out =
    none-out c actor (n + 1) ws
    (second-false ((owner c n == actor) && state_is v HandedOut)
    (has_handed_out_from c actor (n + 1) ws) h) i w
    at (ap (owner c) (let z : (n + 1) + i ≡ n + suc i = omega arith in z) ∙ own) out

-- and so the other way
pub all-free : (c : Config) (actor n : ℕ) (ws : List Word)
    → ((i : ℕ) (w : Word) → get_elem? ws i ≡ some w → owner c (n + i) ≡ actor → w.state ≡ HandedOut
    → ⊥) → has_handed_out_from c actor n ws ≡ false
all-free c actor n [] h = refl
all-free c actor n (v ∷ ws) h =
    let rest : has_handed_out_from c actor (n + 1) ws ≡ false =
    all-free c actor (n + 1) ws
    (λ i w at own out. h (suc i) w at
    (ap (owner c) (let z : n + suc i ≡ (n + 1) + i = omega arith in z) ∙ own) out) in
    λ k. here-false (owner c n == actor) (state_is v HandedOut)
    (λ a b. h zero v refl (ap (owner c) (let z : n + 0 ≡ n = omega arith in z)
    ∙ same-nat (owner c n) actor a) (same-state v.state HandedOut b)) k || rest k
