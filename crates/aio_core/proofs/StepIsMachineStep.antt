-- The tests of the program, together, are those of the machine's step.
use Rattle.std.proofs.Common.{◌≡◌, ◌<◌, ◌==◌, ◌&&◌, Bool, true, false, cond, List, length, refl, ap}
use Rattle.std.proofs.Common.{◌∙◌, set, Option, Some, None, slice_get}
use Rattle.std.proofs.lemmas.Option.{slice_get_within}
use Rattle.aio_word.specs.declared.Config.{Config}
use Rattle.aio_word.specs.declared.Event.{Event}
use Rattle.aio_word.specs.declared.Mark.{Mark}
use Rattle.aio_word.specs.declared.Word.{Word}
use Rattle.aio_word.specs.Events.{Machine, word_after, kind_of_step, updated_machine}
use Rattle.aio_word.specs.Events.{checked_update, machine_after}
use Rattle.aio_word.proofs.EventEffect.{when-true}
use Rattle.aio_word.proofs.RowConditions.{and-both}
use Rattle.aio_core.specs.Allowed.{permits, list_permits, allowed_next_word, lists_with_mark}

module _ (c : Config) (m : Machine) (e : Event) (w : Word) where
  -- the machine after the event, by the list of its actor
  abbrev pub after_with : Word → Option (List Mark) → Machine
  after_with next o = record {
    words = set m.words e.handle next;
    lists =
        lists_with_mark m.lists e.actor e.handle e.generation (kind_of_step w.class e.step) o;
  }

  machine-after-is-with : (o : Option (List Mark)) (next : Word)
      → cond ((w.generation == e.generation) && list_permits c m e o) (word_after w e.step) None
      ≡ Some next → checked_update c m e (Some w) o ≡ Some (after_with next o)
  machine-after-is-with None next h =
      let t = when-true ((w.generation == e.generation) && false) (word_after w e.step) next h in
      absurd (let x = and-both (w.generation == e.generation) false t.0 in let y = x.1 in cc)
  machine-after-is-with (Some marks) next h =
      let t = when-true ((w.generation == e.generation) && list_permits c m e (Some marks))
      (word_after w e.step) next h in
      λ k. cond (t.0 k) (updated_machine m e marks w (t.1 k)) None

  none-of : (b : Bool) (x : Option Word) (f : Option Word → Option Machine) → f None ≡ None
      → cond b x None ≡ None → cond b (f x) None ≡ None
  none-of true x f z h = ap f h ∙ z
  none-of false x f z h = refl

  machine-after-none-with : (o : Option (List Mark))
      → cond ((w.generation == e.generation) && list_permits c m e o) (word_after w e.step) None
      ≡ None
      → checked_update c m e (Some w) o ≡ None
  machine-after-none-with None h = refl
  machine-after-none-with (Some marks) h =
      none-of ((w.generation == e.generation) && list_permits c m e (Some marks))
      (word_after w e.step)
      (updated_machine m e marks w) refl h

  module _ (here : slice_get m.words e.handle ≡ Some w) where
    pub machine-after-is : (next : Word) → allowed_next_word c m e w ≡ Some next
        → machine_after c m e ≡ Some (after_with next (slice_get m.lists e.actor))
    machine-after-is next h = (λ k. checked_update c m e (here k) (slice_get m.lists e.actor))
        ∙ machine-after-is-with (slice_get m.lists e.actor) next h

    pub machine-after-none : allowed_next_word c m e w ≡ None → machine_after c m e ≡ None
    machine-after-none h = (λ k. checked_update c m e (here k) (slice_get m.lists e.actor))
        ∙ machine-after-none-with (slice_get m.lists e.actor) h

permits-in : (c : Config) (m : Machine) (e : Event) (o : Option (List Mark))
    → slice_get m.lists e.actor ≡ o → list_permits c m e o ≡ true → e.actor < length m.lists
permits-in c m e None at permitted = absurd (cc)
permits-in c m e (Some marks) at permitted = slice_get_within m.lists e.actor marks at

-- the actor of an event that is made is in range
pub actor-in : (c : Config) (m : Machine) (e : Event) (w next : Word)
    → allowed_next_word c m e w ≡ Some next → e.actor < length m.lists
actor-in c m e w next h =
    let t = when-true ((w.generation == e.generation) && permits c m e)
    (word_after w e.step) next h in
    permits-in c m e (slice_get m.lists e.actor) refl
    (and-both (w.generation == e.generation) (permits c m e) t.0).1
