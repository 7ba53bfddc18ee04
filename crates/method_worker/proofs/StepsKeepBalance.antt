-- Each step keeps the count.
use Rattle.std.proofs.Common.{◌≡◌, ◌≢◌, ℕ, zero, suc, ◌+◌, ◌-◌, ◌<◌, ◌≤◌, List, [], ◌∷◌, ◌++◌}
use Rattle.std.proofs.Common.{length, set, sym, refl, ap, ◌∙◌, subst, ⊎_elim, arith}
use Rattle.std.specs.List.{sum_by}
use Rattle.std.proofs.lemmas.List.Sums.{sum_by-cons, sum_by_push}
use Rattle.std.proofs.lemmas.List.Elements.{All-head, All-tail, All-push}
use mathlib.Core.Option.{some, some-injective, some-ne-none}
use lib.ListN.{get_elem?}
use Rattle.crossbeam_queue.specs.Fifo.{Pushes, Pops, Forks, Learns, Held}
use Rattle.crossbeam_queue.proofs.Lists.{at_set, at_snoc}
use Rattle.aio_word.specs.declared.WaitRef.{WaitRef}
use Rattle.method_worker.specs.declared.log.Log.{Log}
use Rattle.method_worker.specs.QueueViews.{SeatView}
use Rattle.method_worker.specs.SeatCalls.{RuleAllows, WasFull, WasEmpty}
use Rattle.method_worker.specs.QueueRule.{queue_log, IsBalanced, LogAllows, HasNoPushesOrPops}
use Rattle.method_worker.specs.QueueRule.{all_parts}

-- a sum after a change of one
total_set : {X : Type 0} (f : X → ℕ) (xs : List X) (port : ℕ) (v w : X) → get_elem? xs port ≡ some v
    → sum_by f (set xs port w) + f v ≡ sum_by f xs + f w
total_set f [] port v w at = absurd (some-ne-none v (sym at))
total_set f (x ∷ xs) zero v w at = let e =
    ap f (some-injective x v at) in omega (arith, sum_by-cons f w xs, sum_by-cons f x xs, e)
total_set f (x ∷ xs) (suc port) v w at =
    omega (arith, sum_by-cons f x (set xs port w), sum_by-cons f x xs, total_set f xs port v w at)

-- where each one with no part counts 0 and no part is left, the sum is 0
none_left : {X : Type 0} (parts f : X → ℕ) (xs : List X)
    → ((port : ℕ) (v : X) → get_elem? xs port ≡ some v → parts v ≡ 0 → f v ≡ 0) → sum_by parts xs
    ≡ 0 → sum_by f xs ≡ 0
none_left parts f [] idle e = refl
none_left parts f (x ∷ xs) idle e =
    let s = sum_by-cons parts x xs in
    let here : f x ≡ 0 = idle 0 x refl (omega (arith, s, e)) in
    let rest : sum_by f xs
    ≡ 0 = none_left parts f xs (λ port v at. idle (suc port) v at) (omega (arith, s, e)) in
    omega (arith, sum_by-cons f x xs, here, rest)

at_most : {X : Type 0} (f : X → ℕ) (xs : List X) (port : ℕ) (v : X) → get_elem? xs port ≡ some v
    → f v ≤ sum_by f xs
at_most f [] port v at = absurd (some-ne-none v (sym at))
at_most f (x ∷ xs) zero v at = let e =
    ap f (some-injective x v at) in omega (arith, sum_by-cons f x xs, e)
at_most f (x ∷ xs) (suc port) v at = omega (arith, sum_by-cons f x xs, at_most f xs port v at)

-- who has every part has all of the sum
all_mine : {X : Type 0} (parts f : X → ℕ) (xs : List X) (port : ℕ) (v : X) → get_elem? xs port
    ≡ some v → sum_by parts xs ≡ parts v
    → ((port : ℕ) (v : X) → get_elem? xs port ≡ some v → parts v ≡ 0 → f v ≡ 0) → sum_by f xs ≡ f v
all_mine parts f [] port v at e idle = absurd (some-ne-none v (sym at))
all_mine parts f (x ∷ xs) zero v at e idle =
    let same = ap f (some-injective x v at) in
    let part = ap parts (some-injective x v at) in
    let rest : sum_by f xs
    ≡ 0 = none_left parts f xs (λ port v at. idle (suc port) v at)
    (omega (arith, sum_by-cons parts x xs, e, part)) in
    omega (arith, sum_by-cons f x xs, same, rest)
all_mine parts f (x ∷ xs) (suc port) v at e idle =
    let s = sum_by-cons parts x xs in
    let most = at_most parts xs port v at in
    let here : f x ≡ 0 = idle 0 x refl (omega (arith, s, e, most)) in
    let rest : sum_by f xs
    ≡ f v = all_mine parts f xs port v at (omega (arith, s, e, most))
    (λ port v at. idle (suc port) v at) in
    omega (arith, sum_by-cons f x xs, here, rest)

idle_set : (views : List Log) (port : ℕ) (w : Log) → (w.parts ≡ 0 → HasNoPushesOrPops w)
    → ((p : ℕ) (v : Log) → get_elem? views p ≡ some v → v.parts ≡ 0 → HasNoPushesOrPops v)
    → (p : ℕ) (v : Log) → get_elem? (set views port w) p ≡ some v → v.parts ≡ 0
    → HasNoPushesOrPops v
idle_set views port w mine others p v at none =
    ⊎_elim (λ (x : (p ≡ port) × (w ≡ v)). subst HasNoPushesOrPops x.1
    (mine (ap (λ (y : Log). y.parts) x.1
    ∙ none)))
    (λ (x : (p ≢ port) × (get_elem? views p ≡ some v)). others p v x.1 none)
    (at_set views port p w v at)

parts_of : Log → ℕ
parts_of v = v.parts

-- what was put in a list stands there
here : {A : Type 0} (l : List A) (i : ℕ) (v w : A) → get_elem? l i ≡ some v
    → get_elem? (set l i w) i ≡ some w
here [] i v w at = absurd (some-ne-none v (sym at))
here (x ∷ xs) zero v w at = refl
here (x ∷ xs) (suc i) v w at = here xs i v w at

pub puts : (handles n port : ℕ) (v : Log) (x : WaitRef) → 0 < v.parts → x.handle < handles
    → Pushes (IsBalanced handles) n port v x
    (λ w. (w ≡ queue_log v.parts (v.pushes ++ x ∷ []) v.pops)
    × ((items : List WaitRef) × LogAllows handles w (items ++ x ∷ [])))
puts handles n port v x some_part inside items views room b at =
    let w : Log = queue_log v.parts (v.pushes ++ x ∷ []) v.pops in
    let after : IsBalanced handles (items ++ x ∷ []) (set views port w) = record {
      weights = λ h.
          omega (
            arith,
            total_set (λ (u : Log). sum_by h u.pushes) views port v w at,
            total_set
                (λ (u : Log). sum_by h u.pops) views port v w at,
            b.weights h,
            sum_by_push h v.pushes
                x,
            sum_by_push h items x,
          );
      range = All-push (λ r. r.handle < handles) items x b.range inside;
      parts = omega (arith, total_set (λ u. u.parts) views port v w at, b.parts);
      idle = idle_set views port w (λ none. absurd (omega (arith, none, some_part))) b.idle;
    } in (w, after, (refl, (items, (set views port w, port, after, here views port v w at))))

pub takes : (handles port : ℕ) (v : Log) → 0 < v.parts
    → Pops (IsBalanced handles) port v
    (λ x w. (w ≡ queue_log v.parts v.pushes (v.pops ++ x ∷ [])) × (x.handle < handles)
    × ((items : List WaitRef) × LogAllows handles w items))
takes handles port v some_part x items views b at =
    let w : Log = queue_log v.parts v.pushes (v.pops ++ x ∷ []) in
    let after : IsBalanced handles items (set views port w) = record {
      weights = λ h.
          omega (
            arith,
            total_set (λ (u : Log). sum_by h u.pushes) views port v w at,
            total_set
                (λ (u : Log). sum_by h u.pops) views port v w at,
            b.weights h,
            sum_by_push h v.pops x,
            sum_by-cons h x items,
          );
      range = All-tail (λ r. r.handle < handles) x items b.range;
      parts = omega (arith, total_set (λ u. u.parts) views port v w at, b.parts);
      idle = idle_set views port w (λ none. absurd (omega (arith, none, some_part))) b.idle;
    } in (
      w,
      after,
      (
        refl,
        All-head (λ r. r.handle < handles) x items b.range,
        (items, (set views port w, port, after, here views port v w at)),
      ),
    )

pub forks : (handles port : ℕ) (v : Log) → 1 < v.parts
    → Forks (IsBalanced handles) port v (queue_log (v.parts - 1) v.pushes v.pops)
    (queue_log 1 [] [])
forks handles port v two items views b at =
    let l : Log = queue_log (v.parts - 1) v.pushes v.pops in
    let r : Log = queue_log 1 [] [] in
    let vs : List Log = set views port l in record {
      parts = omega (
        arith,
        total_set (λ u. u.parts) views port v l at,
        sum_by_push
            (λ (u : Log). u.parts) vs r,
        b.parts,
        two,
      );
      weights = λ h.
          omega (
            arith,
            total_set (λ (u : Log). sum_by h u.pushes) views port v l at,
            total_set
                (λ (u : Log). sum_by h u.pops) views port v l at,
            sum_by_push
                (λ (u : Log). sum_by h u.pushes) vs r,
            sum_by_push (λ (u : Log). sum_by h u.pops) vs
                r,
            b.weights h,
          );
      range = b.range;
      idle = λ p u e none.
          ⊎_elim (λ here. idle_set views port l (λ no. absurd (omega (arith, no, two))) b.idle p u
          here none)
          (λ (is : r ≡ u). let one : 1
          ≡ u.parts = ap (λ (y : Log). y.parts) is in absurd (omega (arith, one, none)))
          (at_snoc vs r u p e);
    }

pub learns : (handles port : ℕ) (v : Log)
    → Learns (IsBalanced handles) port v (λ items. LogAllows handles v items)
learns handles port v items views b at = (views, port, b, at)

ones : {X : Type 0} (xs : List X) → sum_by (λ _. 1) xs ≡ length xs
ones [] = refl
ones (x ∷ xs) = omega (arith, sum_by-cons (λ _. 1) x xs, ones xs)

-- a seat with every part knows how many stand in the queue
pub counts : (handles n : ℕ) (v : Log) (items : List WaitRef) → v.parts ≡ all_parts → length items
    ≡ n → LogAllows handles v items → length v.pushes ≡ length v.pops + n
counts handles n v items all is (views, port, b, at) =
    let weight : WaitRef → ℕ = λ _. 1 in
    let whole : sum_by (λ (u : Log). u.parts) views ≡ v.parts = b.parts ∙ sym all in
    let put = all_mine (λ (u : Log). u.parts) (λ (u : Log). sum_by weight u.pushes) views port v at
    whole (λ p u e none. ap (λ (l : List WaitRef). sum_by weight l) (b.idle p u e none).0) in
    let got = all_mine (λ (u : Log). u.parts) (λ (u : Log). sum_by weight u.pops) views port v at
    whole (λ p u e none. ap (λ (l : List WaitRef). sum_by weight l) (b.idle p u e none).1) in
    omega (arith, b.weights weight, put, got, ones v.pushes, ones v.pops, ones items, is)

-- a seat of a queue that was full, or empty, at a moment
pub was-full : (handles n : ℕ) (v : Log) (s : SeatView) → queue_log s.parts s.pushes s.pops ≡ v
    → n ≡ 64
    → Held n (LogAllows handles v) → WasFull handles s
was-full handles n v s same is held =
    let here : Held 64 (RuleAllows handles s) =
    subst (λ (u : Log). Held 64 (LogAllows handles u)) (sym same)
    (subst (λ (m : ℕ). Held m (LogAllows handles v)) is held) in record {
      moment = here;
      if_only_seat = λ all. counts handles 64 (queue_log s.parts s.pushes s.pops) here.0 all here.1
          here.2;
    }

pub was-empty : (handles : ℕ) (v : Log) (s : SeatView) → queue_log s.parts s.pushes s.pops ≡ v
    → Held 0 (LogAllows handles v) → WasEmpty handles s
was-empty handles v s same held =
    let here : Held 0 (RuleAllows handles s) =
    subst (λ (u : Log). Held 0 (LogAllows handles u)) (sym same) held in record {
      moment = here;
      if_only_seat = λ all. omega (
        arith,
        counts handles 0 (queue_log s.parts s.pushes s.pops) here.0 all here.1
            here.2,
      );
    }

-- the same of a seat whose lists of references are as before
pub empty-again : (handles : ℕ) (v v' : Log) (s : SeatView) → v' ≡ v
    → queue_log s.parts s.pushes s.pops
    ≡ v' → Held 0 (LogAllows handles v) → WasEmpty handles s
empty-again handles v v' s as_before same held = was-empty handles v s (same ∙ as_before) held
