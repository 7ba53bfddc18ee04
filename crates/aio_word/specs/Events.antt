-- The machine of handles: which events are allowed, and what each does to its word and to the list
-- of its actor. The states are those of aio_internal.h. That Local means that the owner has taken
-- the result, and that Reclaim alone raises the generation, are this project's own choices.
use Rattle.std.specs.Prelude.{◌≡◌, ℕ, ◌+◌, ◌*◌, ◌/◌, Bool, true, false, cond, not}
use Rattle.std.specs.Prelude.{◌&&◌, ◌||◌, ◌==◌, nat_lt, List, [], ◌∷◌, ◌++◌, count_by, replicate}
use Rattle.std.specs.Prelude.{Option, Some, None, slice_get, slice_set}
use Rattle.aio_word.specs.declared.Config.{Config}
use Rattle.aio_word.specs.declared.State.{State}
use Rattle.aio_word.specs.declared.State.TheVariants as state
use Rattle.aio_word.specs.declared.Class.{Class}
use Rattle.aio_word.specs.declared.Class.TheVariants.{Unended}
use Rattle.aio_word.specs.declared.Word.{Word}
use Rattle.aio_word.specs.declared.Step.{Step}
use Rattle.aio_word.specs.declared.Step.TheVariants as step
use Rattle.aio_word.specs.declared.Event.{Event}
use Rattle.aio_word.specs.declared.Kind.{Kind}
use Rattle.aio_word.specs.declared.Kind.TheVariants as kind
use Rattle.aio_word.specs.declared.Mark.{Mark}
use Rattle.aio_word.specs.declared.WaitRef.{WaitRef}
use Rattle.aio_word.specs.Words.{number_of_state, number_of_class, last_generation}

-- how many handles there are
abbrev pub handle_count : Config → ℕ
handle_count c = c.backends * c.per_backend

-- how many actors there are: backends first, then runners
abbrev pub actor_count : Config → ℕ
actor_count c = c.backends + c.runners

-- the backend that owns the handle
abbrev pub owner : Config → ℕ → ℕ
owner c handle = handle / c.per_backend

-- the place of a mark in a life
abbrev pub kind_place : Kind → ℕ
kind_place kind.Defined = 0
kind_place kind.Staged = 1
kind_place kind.Submitted = 2
kind_place kind.Claimed = 3
kind_place (kind.Io class) = 4
kind_place kind.Shared = 5
kind_place (kind.Local class) = 6
kind_place kind.Reclaimed = 7

-- the generation and the place of a mark, as one number that grows along the lives of a handle
abbrev pub mark_rank : Mark → ℕ
mark_rank m = 8 * m.generation + kind_place m.kind

-- whether it is the mark of this handle at this rank
abbrev pub is_mark : ℕ → ℕ → Mark → Bool
is_mark handle rank m = (m.handle == handle) && (mark_rank m == rank)

-- how often a list has the mark of this handle at this rank
abbrev pub count_at_rank : ℕ → ℕ → List Mark → ℕ
count_at_rank handle rank marks = count_by (is_mark handle rank) marks

-- the incarnation of a handle under a generation
abbrev pub wait_ref : ℕ → ℕ → WaitRef
wait_ref handle generation = record { handle = handle; generation = generation }

-- the mark of this kind of an incarnation
abbrev pub make_mark : WaitRef → Kind → Mark
make_mark t k = record { handle = t.handle; generation = t.generation; kind = k }

-- how often a list has the mark of this kind of an incarnation, whatever its class
abbrev pub mark_count : WaitRef → Kind → List Mark → ℕ
mark_count t k marks = count_at_rank t.handle (8 * t.generation + kind_place k) marks

-- the Io mark and the Local mark where the class is not asked for
abbrev pub any_io : Kind
any_io = kind.Io Unended

abbrev pub any_local : Kind
any_local = kind.Local Unended

-- whether the list has the Claimed mark of an incarnation: its actor is the claimer
abbrev pub has_claimed : ℕ → ℕ → List Mark → Bool
has_claimed handle generation marks = nat_lt 0 (mark_count
    (wait_ref handle generation) kind.Claimed marks)

-- how many lives of a handle ended
abbrev pub lives_ended : ℕ → List Mark → ℕ
lives_ended handle marks = count_by (λ m. (m.handle == handle) && (kind_place m.kind == 7)) marks

-- the word with these parts
abbrev pub make_word : State → Bool → Class → ℕ → Word
make_word s claimed class generation = record {
  state = s;
  claimed = claimed;
  class = class;
  generation = generation;
}

-- the word, where the test holds
abbrev pub some_if : Bool → Word → Option Word
some_if b w = cond b (Some w) None

-- whether the word is in the state
abbrev pub state_is : Word → State → Bool
state_is w s = number_of_state w.state == number_of_state s

-- the word after the step, where the state before has the step
abbrev pub word_after : Word → Step → Option Word
word_after w step.HandOut =
    some_if (state_is w state.Idle && nat_lt w.generation last_generation)
    (make_word state.HandedOut false Unended w.generation)
word_after w step.Release = some_if (state_is w state.HandedOut)
    (make_word state.Idle false Unended w.generation)
word_after w step.Define =
    some_if (state_is w state.HandedOut) (make_word state.Defined false Unended w.generation)
word_after w step.Stage = some_if (state_is w state.Defined)
    (make_word state.Staged false Unended w.generation)
word_after w step.Submit = some_if (state_is w state.Staged)
    (make_word state.Submitted false Unended w.generation)
word_after w step.Claim =
    some_if (state_is w state.Submitted && not w.claimed)
    (make_word state.Submitted true Unended w.generation)
word_after w (step.Io class) =
    some_if (state_is w state.Submitted && (w.claimed && not (number_of_class class == 0)))
    (make_word state.CompletedIo true class w.generation)
word_after w step.Shared =
    some_if (state_is w state.CompletedIo)
    (make_word state.CompletedShared false w.class w.generation)
word_after w step.Local =
    some_if (state_is w state.CompletedShared)
    (make_word state.CompletedLocal false w.class w.generation)
word_after w step.Reclaim =
    some_if (state_is w state.CompletedLocal) (make_word state.Idle false Unended
    (w.generation + 1))

-- the mark that the step appends, by the class of the word before
abbrev pub kind_of_step : Class → Step → Option Kind
kind_of_step class step.HandOut = None
kind_of_step class step.Release = None
kind_of_step class step.Define = Some kind.Defined
kind_of_step class step.Stage = Some kind.Staged
kind_of_step class step.Submit = Some kind.Submitted
kind_of_step class step.Claim = Some kind.Claimed
kind_of_step class (step.Io ended) = Some (kind.Io ended)
kind_of_step class step.Shared = Some kind.Shared
kind_of_step class step.Local = Some (kind.Local class)
kind_of_step class step.Reclaim = Some kind.Reclaimed

-- whether an actor with these marks may make the step on the incarnation: Claim any actor, Io and
-- Shared the claimer, all others the owner
abbrev pub is_allowed : Config → ℕ → List Mark → ℕ → ℕ → Step → Bool
is_allowed c actor marks handle generation step.Claim = nat_lt actor (actor_count c)
is_allowed c actor marks handle generation (step.Io class) = has_claimed handle generation marks
is_allowed c actor marks handle generation step.Shared = has_claimed handle generation marks
is_allowed c actor marks handle generation _ = actor == owner c handle

-- the list with the mark, if there is one
abbrev pub with_mark : List Mark → ℕ → ℕ → Option Kind → List Mark
with_mark marks handle generation None = marks
with_mark marks handle generation (Some k) = marks ++ make_mark (wait_ref handle generation) k ∷ []

-- a state of the machine: the word of each handle, and the list of marks of each actor
pub record Machine : Type 0 where
  pub words : List Word
  pub lists : List (List Mark)

-- whether a handle of the actor, from this one on, is handed out
abbrev pub has_handed_out_from : Config → ℕ → ℕ → List Word → Bool
has_handed_out_from c actor handle [] = false
has_handed_out_from c actor handle (w ∷ ws) =
    ((owner c handle == actor) && state_is w state.HandedOut)
    || has_handed_out_from c actor (handle + 1) ws

-- a handle is handed out only to an owner that has none handed out
abbrev pub may_hand_out : Config → ℕ → List Word → Step → Bool
may_hand_out c actor words step.HandOut = not (has_handed_out_from c actor 0 words)
may_hand_out c actor words _ = true

-- the machine with the word after the event, if there is one, and with the list after it
abbrev pub updated_machine : Machine → Event → List Mark → Word → Option Word → Option Machine
updated_machine m e marks w None = None
updated_machine m e marks w (Some w') = Some record {
  words = slice_set m.words e.handle w';
  lists = slice_set m.lists e.actor (with_mark marks e.handle e.generation
      (kind_of_step w.class e.step));
}

-- the update by the event, where the generation is the word's and its actor may make the step
abbrev pub checked_update : Config → Machine → Event → Option Word → Option (List Mark)
    → Option Machine
checked_update c m e (Some w) (Some marks) = cond
    ((w.generation == e.generation)
    && (is_allowed c e.actor marks e.handle e.generation e.step
    && may_hand_out c e.actor m.words e.step))
    (updated_machine m e marks w (word_after w e.step)) None
checked_update c m e _ _ = None

-- the machine after the event, where it is allowed: handle and actor are in range, the generation
-- is the word's, and the step's condition holds
abbrev pub machine_after : Config → Machine → Event → Option Machine
machine_after c m e = checked_update c m e (slice_get m.words e.handle) (slice_get m.lists e.actor)

-- Idle at the first generation
abbrev pub first_word : Config → Word
first_word c = make_word state.Idle false Unended c.start

-- all handles Idle at the first generation, and no marks
abbrev pub first_machine : Config → Machine
first_machine c = record {
  words = replicate (handle_count c) (first_word c);
  lists = replicate (actor_count c) [];
}

-- the machines that come from the first one by allowed events
pub data IsReachable (c : Config) : Machine → Type 0 where
  start : IsReachable c (first_machine c)
  next : (m : Machine) (e : Event) (m' : Machine)
      → IsReachable c m → machine_after c m e ≡ Some m' → IsReachable c m'
