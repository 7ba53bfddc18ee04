-- The lists of all actors, taken from the last actor on.
use Rattle.std.proofs.Common.{◌≡◌, ℕ, suc, ◌+◌, ◌-◌, ◌*◌, ◌/◌, ◌^◌, min, ◌<◌}
use Rattle.std.proofs.Common.{◌≤◌, ◌==◌, add-one, take, nat_lt, le_refl, sum_by, inl, inr}
use Rattle.std.proofs.Common.{⊎_elim, Some, None, List, [], ◌∷◌, ◌++◌, map, length, get_or}
use Rattle.std.proofs.Common.{refl, sym, ap, ◌∙◌, subst, arith, append_assoc, length-append, Option}
use Rattle.std.specs.List.{All}
use Rattle.std.proofs.lemmas.Nat.{div_below}
use Rattle.std.proofs.lemmas.Bool.Decides.{nat_tests}
use Rattle.std.proofs.lemmas.List.Sums.{sum_by-cons}
use mathlib.Core.Logic.{dite}
use mathlib.Core.Option.{some}
use native.Mathlib.Decide.{ℕ_discrete}
use lib.ListN.{get_elem?}
use Rattle.atomic_table.specs.Table.{State}
use Rattle.aio_word.specs.declared.WaitRef.{WaitRef}
use Rattle.aio_word.specs.declared.State.TheVariants.{Idle}
use Rattle.aio_word.specs.declared.Kind.TheVariants as kind
use Rattle.aio_word.specs.Words.{state_place, word_place}
use Rattle.aio_word.specs.Events.{handle_count, owner, count_at_rank, wait_ref}
use Rattle.aio_word.specs.Stands.{IsIn, one_if}
use Rattle.aio_word.proofs.AppendKeepsHandle.{place-small}
use Rattle.aio_word.proofs.OwnMarksBoundWord.{has-counted}
use Rattle.aio_word.proofs.TotalsAgree.{totals-agree}
use Rattle.aio_word.specs.declared.State.{State as WordState}
use Rattle.aio_handle.specs.EndStates.{NoneHasOwnerTokens}
use Rattle.aio_handle.specs.TableInvariant.{lists_joined}
use Rattle.aio_handle.proofs.SeatLists.{entry-at, index-below}
use Rattle.aio_handle.proofs.WordFromMarks.{idle-or-out}
use Rattle.atomic_table.specs.Table.{Final, Seen}
use Rattle.aio_word.specs.declared.Config.{Config}
use Rattle.aio_word.specs.declared.Known.{Known}
use Rattle.aio_word.specs.declared.Word.{Word}
use Rattle.aio_word.proofs.RanksAgree.{stands-from-ranks}
use Rattle.aio_word.specs.Events.{actor_count}
use Rattle.aio_word.specs.StandsByRank.{StandsByRank}
use Rattle.aio_handle.specs.declared.record.Label.{Label}
use Rattle.aio_handle.specs.TableInvariant.{TableInvariant}
use Rattle.aio_handle.proofs.SeatSplitAndJoin.{all-here}
use Rattle.aio_handle.specs.ContractViews.{ActorView, actor_known}
use Rattle.aio_handle.specs.EndStates.{EndState}
use Rattle.aio_word.specs.Totals.{incarnations, by_backends, by_runners}
use Rattle.aio_handle.specs.ContractViews.{IsConfig}
use Rattle.std.proofs.Math.Nat.{mul-le-mul}
use Rattle.std.proofs.Math.Seq.{take-suc}
use Rattle.std.proofs.lemmas.List.Sums.{sum_by_push}
use Rattle.aio_handle.proofs.NewTableMeetsInvariant.{push-old, push-last}

module _ {A : Type 0} (P : A → Type 0) (xs ys : List A) (x : A) (e : ys ≡ xs ++ x ∷ [])
    (all : All P ys) where
  pub last-of : P x
  last-of = let a : All P (xs ++ x ∷ []) = subst (λ (z : List A). All P z) e all in
      subst P (push-last xs x x) (a (length xs) x (omega (arith, length-append xs (x ∷ []))))

  pub front-of : All P xs
  front-of k d lt = let a : All P (xs ++ x ∷ []) = subst (λ (z : List A). All P z) e all in
      subst P (push-old xs x d k lt) (a k d (omega (arith, length-append xs (x ∷ []))))

map-push : (xs : List ActorView) (x : ActorView)
    → map actor_known (xs ++ x ∷ []) ≡ map actor_known xs ++ actor_known x ∷ []
map-push [] x = refl
map-push (y ∷ xs) x = ap (λ (z : List Known). actor_known y ∷ z) (map-push xs x)

pub more-lists : (xs ys : List ActorView) (x : ActorView) (zs us T : List Known) → ys ≡ xs ++ x ∷ []
    → map actor_known ys ++ zs ≡ T → us ≡ actor_known x ∷ zs → map actor_known xs ++ us ≡ T
more-lists xs ys x zs us T e t u = ap (λ (z : List Known). map actor_known xs ++ z) u
    ∙ (sym (append_assoc (map actor_known xs) (actor_known x ∷ []) zs) ∙
    (ap (λ (z : List Known). z ++ zs) (sym (map-push xs x) ∙ ap (map actor_known) (sym e)) ∙ t))

length-known : (xs : List ActorView) → length (map actor_known xs) ≡ length xs
length-known [] = refl
length-known (x ∷ xs) = ap suc (length-known xs)

-- what holds of each part holds of the sums
sum-below : (f g : Known → ℕ) (ps : List Known) → ((p : Known) → IsIn p ps → f p ≤ g p)
    → sum_by f ps ≤ sum_by g ps
sum-below f g [] h = le_refl 0
sum-below f g (p ∷ ps) h = let a = h p (inl refl) in let b : sum_by f ps ≤ sum_by g ps =
    sum-below f g ps (λ q i. h q (inr i)) in omega (arith, sum_by-cons f p ps, sum_by-cons g p ps)

first-due : (n : ℕ) → 0 < n → one_if (nat_lt 0 n) ≡ 1
first-due n h = grind (arith, nat_tests)

last-not : (n : ℕ) → n < 8 → one_if (nat_lt 7 n) ≡ 0
last-not n h = grind (arith, nat_tests)

number-of : (n m : ℕ) → 0 < one_if (n == m) → n ≡ m
number-of n m h = grind (arith, nat_tests)

none-some : (t : WaitRef) → None ≡ Some t → ⊥
none-some t e = cc

-- where no token is out, each word is Idle
pub all-idle : {R : Type 0} (label : R → Label) (aim_in : R → List ℕ) (Fits : R → Type 0)
    (c : Config) (s : State (Option R) (List Known)) (r : TableInvariant label aim_in Fits c s)
    → NoneHasOwnerTokens (lists_joined s.views) → (h : ℕ) (w : Word) → get_elem? r.ws h ≡ some w
    → h < handle_count c
    → owner c h < actor_count c → w.state ≡ Idle
all-idle label aim_in Fits c s r quiet h w at range inside =
    let hs = (stands-from-ranks c r.ws (lists_joined s.views) r.words_match_lists).each_handle h w at in
    let small = place-small w.state w.claimed in
    let D : Known → ℕ = λ p. count_at_rank h (8 * w.generation + 0) p.marks in
    let L : Known → ℕ = λ p. count_at_rank h (8 * w.generation + 7) p.marks in
    let le : sum_by D (lists_joined s.views) ≤ sum_by L (lists_joined s.views) = sum-below D L
    (lists_joined s.views)
    (λ p i. (quiet p i).1 (wait_ref h w.generation)) in
    let d : sum_by D (lists_joined s.views) ≡ one_if (nat_lt 0 (word_place w)) = hs.now kind.Defined
    in
    let l : sum_by L (lists_joined s.views) ≡ one_if (nat_lt 7 (word_place w)) =
    hs.now kind.Reclaimed
    in
    let no = last-not (word_place w) small in
    let zero' : word_place w ≡ 0 = dite (ℕ_discrete (word_place w) 0) (λ e. e)
    (λ n. absurd (let one = first-due (word_place w) (omega arith) in omega arith)) in
    let (home, eh) = entry-at s.homes h (let d' = r.homes in omega arith) in
    let t = r.handle h w home at eh in
    let m = has-counted (λ (p : Known). one_if (p.number == owner c h)) (lists_joined s.views)
    (r.present (owner c h) inside) in
    let own : m.it.number ≡ owner c h = number-of m.it.number (owner c h) m.more in
    ⊎_elim (λ e. e)
    (λ o. absurd (none-some (wait_ref h w.generation)
    (sym (quiet m.it m.within).0 ∙ ((t.known m.it m.within).out own w.generation).0 (o, refl))))
    (idle-or-out w.state w.claimed zero')

owner-inside : (c : Config) (h : ℕ) → h < handle_count c → owner c h < actor_count c
owner-inside c h lt = dite (ℕ_discrete c.per_backend 0)
    (λ e. absurd (let x : h < c.backends * 0 = subst (λ (z : ℕ). h < c.backends * z) e lt in
    omega arith))
    (λ n. let d : h / c.per_backend < c.backends = div_below h c.per_backend c.backends
    (omega arith) lt in omega arith)

pub idle-place : (w : Word) → w.state ≡ Idle → word_place w ≡ 0
idle-place w e = ap (λ (z : WordState). state_place z w.claimed) e

-- each generation is small, so their sum is
sum-small : (c : Config) (ws : List Word)
    → ((h : ℕ) (w : Word) → get_elem? ws h ≡ some w → w.generation < 2 ^ 58)
    → incarnations c ws ≤ length ws * 2 ^ 58
sum-small c [] small = omega arith
sum-small c (w ∷ ws) small =
    let rest : incarnations c ws ≤ length ws * 2 ^ 58 = sum-small c ws
    (λ h v at. small (suc h) v at) in
    let here = small 0 w refl in
    let cons : incarnations c (w ∷ ws) ≡ (w.generation - c.start) + incarnations c ws = sum_by-cons
    (λ (v : Word). v.generation - c.start) w ws in
    let more : length (w ∷ ws) * 2 ^ 58 ≡ 2 ^ 58 + length ws * 2 ^ 58 = omega arith in omega arith

-- a table has at most 1024 handles
few-handles : (c : Config) → IsConfig c → handle_count c ≤ 16 * 64
few-handles c k = mul-le-mul k.backends.1 k.per_backend.1

pub end-state : {R : Type 0} (label : R → Label) (aim_in : R → List ℕ) (Fits : R → Type 0)
    (c : Config)
    (id : ℕ) (v : List Known) (xs : List ActorView) (ws : List ℕ) (slots : List (Option R))
    → v ≡ map actor_known xs → length xs ≡ actor_count c → IsConfig c
    → NoneHasOwnerTokens (map actor_known xs)
    → Final (Seen (TableInvariant label aim_in Fits c) id v) ws slots
    → EndState c (map actor_known xs)
    × (by_backends c (map actor_known xs) + by_runners c (map actor_known xs) < 2 ^ 128 - 1)
end-state label aim_in Fits c id v xs ws slots e all config quiet (s, (r, atv), words, n, rest) =
    let long : length v ≡ actor_count c = ap length e ∙ (length-known xs ∙ all) in
    let ws' : List Word = r.ws in
    let here : lists_joined s.views ≡ map actor_known xs =
    all-here label aim_in Fits c s id v r atv long ∙ e in
    let rk : StandsByRank c ws' (map actor_known xs) = subst
    (λ (z : List Known). StandsByRank c ws' z) here r.words_match_lists in
    let idle : (h : ℕ) (w : Word) → get_elem? ws' h ≡ some w → w.state ≡ Idle =
    λ h w at. let inside : h < handle_count c =
    (let b = index-below ws' h w at in let d = r.words_match_lists.one_per_handle in omega arith) in
    all-idle label aim_in Fits c s r
    (λ p i. quiet p (subst (λ (z : List Known). IsIn p z) here i)) h w at inside
    (owner-inside c h inside) in
    let totals_agree : incarnations c ws' ≡ by_backends c (map actor_known xs) + by_runners c
    (map actor_known xs) = totals-agree c ws' (map actor_known xs) rk
    (λ h w at. idle-place w (idle h w at)) in
    let most : incarnations c ws' ≤ length ws' * 2 ^ 58 = sum-small c ws'
    (λ h w at. (rk.each_handle h w at).lawful.bound) in
    let one_per_handle : length ws' ≡ handle_count c = rk.one_per_handle in
    let few : handle_count c ≤ 1024 = few-handles c config in (
      record {
        words = ws';
        words_match_lists = stands-from-ranks c ws' (map actor_known xs) rk;
        idle = idle;
        totals_agree =
            totals_agree;
      },
      omega arith,
    )

-- a sum over the actors so far
abbrev pub so-far : (Known → ℕ) → List ActorView → ℕ → ℕ
so-far f xs k = sum_by (λ (a : ActorView). f a.known) (take k xs)

pub one-more : (f : Known → ℕ) (xs : List ActorView) (k : ℕ) (x : ActorView) → k < length xs
    → get_or xs k x ≡ x → so-far f xs (k + 1) ≡ so-far f xs k + f x.known
one-more f xs k x lt is =
    let F : ActorView → ℕ = λ a. f a.known in
    ap (sum_by F) (ap (λ (n : ℕ). take n xs) (add-one k) ∙ take-suc xs k x lt) ∙
    (sum_by_push F (take k xs) (get_or xs k x) ∙ ap
    (λ (a : ActorView). sum_by F (take k xs) + f a.known) is)

known-sum : (f : Known → ℕ) (xs : List ActorView)
    → sum_by f (map actor_known xs) ≡ sum_by (λ (a : ActorView). f a.known) xs
known-sum f [] = refl
known-sum f (x ∷ xs) =
    let a = sum_by-cons f x.known (map actor_known xs) in
    let b = sum_by-cons (λ (y : ActorView). f y.known) x xs in
    let d : sum_by f (map actor_known xs) ≡ sum_by
    (λ (y : ActorView). f y.known) xs = known-sum f xs in
    let goal : sum_by f (x.known ∷ map actor_known xs) ≡ sum_by (λ (y : ActorView). f y.known)
    (x ∷ xs) = omega arith in goal

take-all : {A : Type 0} (xs : List A) → take (length xs) xs ≡ xs
take-all [] = refl
take-all (x ∷ xs) = ap (λ (z : List _). x ∷ z) (take-all xs)

pub all-of : (f : Known → ℕ) (xs : List ActorView) (k : ℕ) → k ≡ length xs
    → so-far f xs k ≡ sum_by f (map actor_known xs)
all-of f xs k e = ap (λ (n : ℕ). sum_by (λ (a : ActorView). f a.known) (take n xs)) e ∙
    (ap (sum_by (λ (a : ActorView). f a.known)) (take-all xs) ∙ sym (known-sum f xs))

-- a sum that stops at its type's end, with one actor more
pub counts-on : (f : Known → ℕ) (xs : List ActorView) (k : ℕ) (x : ActorView) (old got new : ℕ)
    → k < length xs → x ≡ get_or xs k x → old ≡ min (so-far f xs k) (2 ^ 128 - 1)
    → got ≡ min (f x.known) (2 ^ 128 - 1) → new ≡ min (old + got) (2 ^ 128 - 1)
    → new ≡ min (so-far f xs (k + 1)) (2 ^ 128 - 1)
counts-on f xs k x old got new lt is eo eg en = let more : so-far f xs (k + 1)
    ≡ so-far f xs k + f x.known = one-more f xs k x lt (sym is) in omega arith
