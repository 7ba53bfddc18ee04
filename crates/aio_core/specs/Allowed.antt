-- An event's conditions one by one, as the program tests them.
use Rattle.std.specs.Prelude.{◌≡◌, ℕ, Bool, false, cond, ◌&&◌, ◌==◌}
use Rattle.std.specs.Prelude.{List, Option, Some, None, slice_get, slice_set}
use Rattle.aio_word.specs.declared.Config.{Config}
use Rattle.aio_word.specs.declared.Event.{Event}
use Rattle.aio_word.specs.declared.Kind.{Kind}
use Rattle.aio_word.specs.declared.Mark.{Mark}
use Rattle.aio_word.specs.declared.Word.{Word}
use Rattle.aio_word.specs.Events.{Machine, word_after, is_allowed, may_hand_out, with_mark}

-- whether the actor with these marks may make the event
abbrev pub list_permits : Config → Machine → Event → Option (List Mark) → Bool
list_permits c m e None = false
list_permits c m e (Some marks) =
    is_allowed c e.actor marks e.handle e.generation e.step && may_hand_out c e.actor m.words e.step

-- whether the event's actor is in range and may make it
abbrev pub permits : Config → Machine → Event → Bool
permits c m e = list_permits c m e (slice_get m.lists e.actor)

-- the word after the event, where it is allowed and its handle has this word
abbrev pub allowed_next_word : Config → Machine → Event → Word → Option Word
allowed_next_word c m e w = cond ((w.generation == e.generation) && permits c m e)
    (word_after w e.step) None

-- the event's handle has a word of the event's generation that has the step
pub record HasStep (m : Machine) (e : Event) : Type 0 where
  pub w : Word
  pub next : Word
  pub word : slice_get m.words e.handle ≡ Some w
  pub generation : w.generation ≡ e.generation
  pub row : word_after w e.step ≡ Some next

-- the lists after a mark of that kind, if any, in the list of the actor, if there is one
abbrev pub lists_with_mark : List (List Mark) → ℕ → ℕ → ℕ → Option Kind → Option (List Mark)
    → List (List Mark)
lists_with_mark lists actor handle generation kind None = lists
lists_with_mark lists actor handle generation kind (Some marks) =
    slice_set lists actor (with_mark marks handle generation kind)
