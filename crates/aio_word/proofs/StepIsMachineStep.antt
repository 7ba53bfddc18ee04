-- A step that changes one word and one list as the table of events says is the machine's step.
use Rattle.std.proofs.Common.{◌≡◌, ◌≢◌, ℕ, zero, suc, ◌<◌, ◌≤◌, ◌==◌, ◌&&◌, Bool, true, cond, List}
use Rattle.std.proofs.Common.{[], ◌∷◌, ◌++◌, length, set, sum_by, refl, sym, ap, ◌∙◌, subst, ⊎_elim}
use Rattle.std.proofs.Common.{arith, length-set, Some, None, slice_get}
use Rattle.std.proofs.lemmas.Bool.Decides.{nat_tests}
use Rattle.std.proofs.lemmas.Option.{slice_get_within}
use mathlib.Core.Option.{some, some-injective, some-ne-none}
use lib.ListN.{get_elem?}
use Rattle.aio_word.specs.declared.Config.{Config}
use Rattle.aio_word.specs.declared.Event.{Event}
use Rattle.aio_word.specs.declared.Mark.{Mark}
use Rattle.aio_word.specs.declared.Word.{Word}
use Rattle.aio_word.specs.declared.Known.{Known}
use Rattle.aio_word.specs.Events.{Machine, word_after, kind_of_step, is_allowed, with_mark}
use Rattle.aio_word.specs.Events.{may_hand_out, updated_machine, checked_update}
use Rattle.aio_word.specs.Events.{machine_after}
use Rattle.aio_word.specs.Stands.{one_if, MachineHasParts}
use Rattle.aio_word.proofs.ReplacedElement.{in-here}
use Rattle.aio_word.proofs.ListWithMark.{in-others, others-in, other-number}

pub at-get : {A : Type 0} (xs : List A) (i : ℕ) (a : A) → get_elem? xs i ≡ some a
    → slice_get xs i ≡ Some a
at-get [] i a e = absurd (some-ne-none a (sym e))
at-get (x ∷ xs) zero a e = ap Some (some-injective x a e)
at-get (x ∷ xs) (suc i) a e = at-get xs i a e

pub get-set : {A : Type 0} (xs : List A) (i : ℕ) (a : A) → i < length xs
    → slice_get (set xs i a) i ≡ Some a
get-set [] i a h = absurd (omega arith)
get-set (x ∷ xs) zero a h = refl
get-set (x ∷ xs) (suc i) a h = get-set xs i a (omega arith)

pub get-else : {A : Type 0} (xs : List A) (i j : ℕ) (a : A) → j ≢ i
    → slice_get (set xs i a) j ≡ slice_get xs j
get-else [] i j a n = refl
get-else (x ∷ xs) zero zero a n = absurd (n refl)
get-else (x ∷ xs) zero (suc j) a n = refl
get-else (x ∷ xs) (suc i) zero a n = refl
get-else (x ∷ xs) (suc i) (suc j) a n = get-else xs i j a (λ e. n (ap suc e))

nat-same : (a b : ℕ) → a ≡ b → (a == b) ≡ true
nat-same a b e = grind (arith, nat_tests)

abbrev machine_with : Machine → Event → Word → Word → List Mark → Machine
machine_with m e w w' marks =
    record {
      words = set m.words e.handle w';
      lists =
          set m.lists e.actor (with_mark marks e.handle e.generation (kind_of_step w.class e.step));
    }

abbrev is_step_allowed : Config → Machine → Event → Word → List Mark → Bool
is_step_allowed c m e w marks =
    (w.generation == e.generation) &&
    (is_allowed c e.actor marks e.handle e.generation e.step
    && may_hand_out c e.actor m.words e.step)

pub step-is-machine-step : (c : Config) (m : Machine) (e : Event) (w w' : Word) (marks : List Mark)
    → slice_get m.words e.handle ≡ Some w → slice_get m.lists e.actor ≡ Some marks
    → w.generation ≡ e.generation
    → is_allowed c e.actor marks e.handle e.generation e.step ≡ true
    → may_hand_out c e.actor m.words e.step ≡ true → word_after w e.step ≡ Some w'
    → machine_after c m e ≡ Some (machine_with m e w w' marks)
step-is-machine-step c m e w w' marks ew el g y f row =
    let yes : is_step_allowed c m e w marks ≡ true =
    λ k. nat-same w.generation e.generation g k && (y k && f k) in
    (λ k. checked_update c m e (ew k) (el k))
    ∙ ((λ k. cond (yes k) (updated_machine m e marks w (word_after w e.step)) None)
    ∙ ap (updated_machine m e marks w) row)

-- the state of the machine goes along
pub machine-keeps-parts : (c : Config) (m : Machine) (ws : List Word) (a b : List Known)
    (p p' : Known)
    (e : Event) (w w' : Word) → MachineHasParts c m ws (a ++ p ∷ b)
    → sum_by (λ (z : Known). one_if (z.number == p.number)) (a ++ p ∷ b) ≤ 1
    → p.number ≡ e.actor → p'.number ≡ p.number
    → p'.marks ≡ with_mark p.marks e.handle e.generation (kind_of_step w.class e.step)
    → get_elem? ws e.handle ≡ some w → w.generation ≡ e.generation
    → is_allowed c e.actor p.marks e.handle e.generation e.step ≡ true
    → may_hand_out c e.actor m.words e.step ≡ true → word_after w e.step ≡ Some w'
    → (m' : Machine) × (machine_after c m e ≡ Some m') × MachineHasParts c m' (set ws e.handle w')
    (a ++ p' ∷ b)
machine-keeps-parts c m ws a b p p' e w w' s one actor same marks at g y f row =
    let el : slice_get m.lists e.actor ≡ Some p.marks = ap (slice_get m.lists) (sym actor)
    ∙ s.lists p (in-here a b p) in
    let ew : slice_get m.words e.handle ≡ Some w =
    ap (λ (z : List Word). slice_get z e.handle) s.words ∙ at-get ws e.handle w at in
    let inside : e.actor < length m.lists = slice_get_within m.lists e.actor p.marks el in
    let l : List Mark = with_mark p.marks e.handle e.generation (kind_of_step w.class e.step) in (
      machine_with m e w w' p.marks,
      step-is-machine-step c m e w w' p.marks ew el g y f row,
      record {
        words = ap (λ (z : List Word). set z e.handle w') s.words;
        lists = λ q i. ⊎_elim
            (λ x. subst (λ (z : Known). slice_get (set m.lists e.actor l) z.number ≡ Some z.marks) x
            (ap (slice_get (set m.lists e.actor l)) (same ∙ actor)
            ∙ (get-set m.lists e.actor l inside ∙ ap Some (sym marks))))
            (λ o. let ne : q.number ≢ e.actor = λ z. other-number a b p q one o (z ∙ sym actor) in
            get-else m.lists e.actor q.number l ne ∙ s.lists q (others-in a b p q o))
            (in-others a b p' q i);
        all = length-set m.lists e.actor l ∙ s.all;
      },
    )
