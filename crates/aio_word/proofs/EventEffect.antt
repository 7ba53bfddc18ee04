-- What an allowed event does to the machine.
use Rattle.std.proofs.Common.{◌≡◌, ℕ, zero, suc, ◌==◌, ◌&&◌, Bool, true, false, cond, List, [], ◌∷◌}
use Rattle.std.proofs.Common.{set, refl, sym, ap, arith, Option, Some, None, slice_get}
use Rattle.std.proofs.lemmas.Bool.Decides.{nat_tests}
use mathlib.Core.Option.{some}
use lib.ListN.{get_elem?}
use Rattle.aio_word.specs.declared.Config.{Config}
use Rattle.aio_word.specs.declared.Event.{Event}
use Rattle.aio_word.specs.declared.Mark.{Mark}
use Rattle.aio_word.specs.declared.Word.{Word}
use Rattle.aio_word.specs.Events.{Machine, word_after, kind_of_step, is_allowed, with_mark}
use Rattle.aio_word.specs.Events.{may_hand_out, updated_machine, checked_update}
use Rattle.aio_word.specs.Events.{machine_after}
use Rattle.aio_word.proofs.RowConditions.{and-both}

pub get-at : {A : Type 0} (xs : List A) (i : ℕ) (a : A) → slice_get xs i ≡ Some a
    → get_elem? xs i ≡ some a
get-at [] i a e = absurd (cc)
get-at (x ∷ xs) zero a e = ap some (let h : x ≡ a = cc in h)
get-at (x ∷ xs) (suc i) a e = get-at xs i a e

-- what an allowed event does
pub record EventEffect (c : Config) (m : Machine) (e : Event) (m' : Machine) : Type 0 where
  pub w : Word
  pub marks : List Mark
  pub word : slice_get m.words e.handle ≡ Some w
  pub list : slice_get m.lists e.actor ≡ Some marks
  pub generation : w.generation ≡ e.generation
  pub may : is_allowed c e.actor marks e.handle e.generation e.step ≡ true
  pub free : may_hand_out c e.actor m.words e.step ≡ true
  pub w' : Word
  pub row : word_after w e.step ≡ Some w'
  pub is : m' ≡ record {
    words = set m.words e.handle w';
    lists =
        set m.lists e.actor (with_mark marks e.handle e.generation (kind_of_step w.class e.step));
  }

pub same-nat : (a b : ℕ) → (a == b) ≡ true → a ≡ b
same-nat a b h = grind (arith, nat_tests)

pub when-true : {A : Type 0} (b : Bool) (x : Option A) (y : A) → cond b x None ≡ Some y
    → (b ≡ true) × (x ≡ Some y)
when-true true x y e = (refl, e)
when-true false x y e = absurd (cc)

some-same : {A : Type 0} (x y : A) → Some x ≡ Some y → x ≡ y
some-same x y e = cc

invert-row : (c : Config) (m : Machine) (e : Event) (m' : Machine) (w : Word) (marks : List Mark)
    (o : Option Word) → word_after w e.step ≡ o → slice_get m.words e.handle ≡ Some w
    → slice_get m.lists e.actor ≡ Some marks
    → (w.generation == e.generation) ≡ true
    → is_allowed c e.actor marks e.handle e.generation e.step ≡ true
    → may_hand_out c e.actor m.words e.step ≡ true → updated_machine m e marks w o ≡ Some m'
    → EventEffect c m e m'
invert-row c m e m' w marks None row ew el g y f h = absurd (cc)
invert-row c m e m' w marks (Some w') row ew el g y f h =
    record {
      w = w;
      marks = marks;
      word = ew;
      list = el;
      generation =
          same-nat w.generation e.generation g;
      may = y;
      free = f;
      w' = w';
      row = row;
      is =
          sym (some-same _ m' h);
    }

invert-found : (c : Config) (m : Machine) (e : Event) (m' : Machine) (ow : Option Word)
    (ol : Option (List Mark)) → slice_get m.words e.handle ≡ ow → slice_get m.lists e.actor ≡ ol
    → checked_update c m e ow ol ≡ Some m' → EventEffect c m e m'
invert-found c m e m' None None ew el h = absurd (cc)
invert-found c m e m' None (Some marks) ew el h = absurd (cc)
invert-found c m e m' (Some w) None ew el h = absurd (cc)
invert-found c m e m' (Some w) (Some marks) ew el h =
    let t = when-true ((w.generation == e.generation) &&
    (is_allowed c e.actor marks e.handle e.generation e.step
    && may_hand_out c e.actor m.words e.step))
    (updated_machine m e marks w (word_after w e.step)) m' h in
    let x = and-both (w.generation == e.generation)
    (is_allowed c e.actor marks e.handle e.generation e.step
    && may_hand_out c e.actor m.words e.step) t.0
    in
    let y = and-both (is_allowed c e.actor marks e.handle e.generation e.step)
    (may_hand_out c e.actor m.words e.step) x.1 in
    invert-row c m e m' w marks (word_after w e.step) refl ew el x.0 y.0 y.1 t.1

pub event-effect : (c : Config) (m : Machine) (e : Event) (m' : Machine)
    → machine_after c m e ≡ Some m'
    → EventEffect c m e m'
event-effect c m e m' h = invert-found c m e m' (slice_get m.words e.handle)
    (slice_get m.lists e.actor) refl refl h
