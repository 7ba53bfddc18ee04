-- Where an actor's list lies among all.
use Rattle.std.proofs.Common.{◌≡◌, ℕ, zero, suc, ◌+◌, List, [], ◌∷◌, ◌++◌, set, ap, ◌∙◌, arith}
use Rattle.std.proofs.Common.{Some, slice_get}
use Rattle.aio_word.specs.declared.Config.{Config}
use Rattle.aio_word.specs.declared.Mark.{Mark}
use Rattle.aio_word.specs.declared.Known.{Known}
use Rattle.aio_word.specs.Stands.{known_with_marks, machine_parts}

pub record ActorPosition (c : Config) (n : ℕ) (lists : List (List Mark)) (actor : ℕ)
    (marks : List Mark) : Type 0 where
  pub front : List Known
  pub back : List Known
  pub now : machine_parts c n lists ≡ front ++ known_with_marks c (n + actor) marks ∷ back
  pub then : (l : List Mark)
      → machine_parts c n (set lists actor l) ≡ front ++ known_with_marks c (n + actor) l ∷ back

pub actor-position : (c : Config) (n : ℕ) (lists : List (List Mark)) (actor : ℕ) (marks : List Mark)
    → slice_get lists actor ≡ Some marks → ActorPosition c n lists actor marks
actor-position c n [] actor marks e = absurd (cc)
actor-position c n (x ∷ xs) zero marks e = record {
  front = [];
  back = machine_parts c (n + 1) xs;
  now = (λ k. known_with_marks c (let z : n ≡ n + 0 = omega arith in z k) (let y : x ≡ marks = cc in
      y k) ∷ machine_parts c (n + 1) xs);
  then = λ l. (λ k. known_with_marks c (let z : n ≡ n + 0 = omega arith in
      z k) l ∷ machine_parts c (n + 1) xs);
}
actor-position c n (x ∷ xs) (suc actor) marks e =
    let r = actor-position c (n + 1) xs actor marks e in
    let z : (n + 1) + actor ≡ n + suc actor = omega arith in record {
      front = known_with_marks c n x ∷ r.front;
      back = r.back;
      now = ap (λ (t : List Known). known_with_marks c n x ∷ t) (r.now
          ∙ ap (λ (i : ℕ). r.front ++ known_with_marks c i marks ∷ r.back) z);
      then = λ l. ap (λ (t : List Known). known_with_marks c n x ∷ t) (r.then l
          ∙ ap (λ (i : ℕ). r.front ++ known_with_marks c i l ∷ r.back) z);
    }
