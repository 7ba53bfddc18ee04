-- The lists of marks stand for the words, in six parts.
--   (a) Words are lawful, and no two actors have one number.
--   (b) Each generation that is over has each mark of a life exactly once, the current one its
--       first marks and no other, and no other generation any.
--   (c) Each mark stands in the list of the actor that makes it, in the order of the life.
--   (d) The classes of a life agree.
--   (e) No owner has two handles handed out.
--   (f) Nobody has seen more than the word's pair of generation and place.
-- This counts marks over all lists, and knows no protocol.
use Rattle.std.specs.Prelude.{◌≡◌, ℕ, ◌+◌, ◌/◌, ◌%◌, ◌<◌, ◌≤◌, ◌⊎◌, Bool, cond, ◌==◌, nat_lt}
use Rattle.std.specs.Prelude.{List, [], ◌∷◌, length, sum_by, Some, None, slice_get, slice_index_or}
use mathlib.Core.Option.{some}
use lib.ListN.{get_elem?}
use Rattle.std.specs.List.{AllPairs}
use Rattle.aio_word.specs.declared.State.TheVariants.{Idle, HandedOut}
use Rattle.aio_word.specs.declared.Class.{Class}
use Rattle.aio_word.specs.declared.Word.{Word}
use Rattle.aio_word.specs.declared.Kind.{Kind}
use Rattle.aio_word.specs.declared.Kind.TheVariants as kind
use Rattle.aio_word.specs.declared.Config.{Config}
use Rattle.aio_word.specs.declared.Mark.{Mark}
use Rattle.aio_word.specs.declared.Known.{Known}
use Rattle.aio_word.specs.declared.WaitRef.{WaitRef}
use Rattle.aio_word.specs.Words.{IsLawful, IsNotAbove, last_generation, word_place}
use Rattle.aio_word.specs.Events.{Machine, IsReachable, handle_count, actor_count, owner}
use Rattle.aio_word.specs.Events.{kind_place, mark_rank, count_at_rank, mark_count, any_io}
use Rattle.aio_word.specs.Events.{wait_ref, make_mark}

-- 1 where the test holds, else 0
abbrev pub one_if : Bool → ℕ
one_if b = cond b 1 0

-- the list has the element
abbrev pub IsIn : {A : Type 0} → A → List A → Type 0
IsIn x [] = ⊥
IsIn x (y ∷ ys) = (y ≡ x) ⊎ IsIn x ys

-- the claimer makes these, and the owner the others
abbrev pub IsOwnerKind : Kind → Type 0
IsOwnerKind kind.Claimed = ⊥
IsOwnerKind (kind.Io class) = ⊥
IsOwnerKind kind.Shared = ⊥
IsOwnerKind _ = Unit {0}

-- how often the mark of this handle at this rank stands in all lists
abbrev pub total_at_rank : ℕ → ℕ → List Known → ℕ
total_at_rank handle rank parts = sum_by (λ p. count_at_rank handle rank p.marks) parts

-- the greatest pair that the actor has seen of the handle, as a rank
abbrev pub seen_rank : Known → ℕ → ℕ
seen_rank p handle = slice_index_or p.seen handle 0

-- how often the mark of this kind of an incarnation stands over all lists
abbrev pub mark_total : WaitRef → Kind → List Known → ℕ
mark_total t k parts = sum_by (λ p. mark_count t k p.marks) parts

-- the lists stand for the word of one handle: what (a), (b), (c), (d) and (f) say of it
pub record StandsForHandle (c : Config) (parts : List Known) (handle : ℕ) (w : Word) : Type 0 where
  -- (a) the word is lawful and not below the first generation, and Idle at the last
  pub lawful : IsLawful w
  pub begun : c.start ≤ w.generation
  pub last : w.generation ≡ last_generation → w.state ≡ Idle
  -- (b) each generation that is over has each mark of a life once
  pub past_marks : (g : ℕ) → c.start ≤ g → g < w.generation
      → (k : Kind) → mark_total (wait_ref handle g) k parts ≡ 1
  -- (b) the word's generation has the first marks once each, as many as the place says
  pub now : (k : Kind)
      → mark_total (wait_ref handle w.generation) k parts
      ≡ one_if (nat_lt (kind_place k) (word_place w))
  -- (b) no other generation has a mark
  pub none : (g : ℕ) → (g < c.start) ⊎ (w.generation < g)
      → (k : Kind) → mark_total (wait_ref handle g) k parts ≡ 0
  -- (c) Claimed, Io and Shared of one incarnation stand in one list
  pub claimed : (p : Known) → IsIn p parts → (g : ℕ)
      → (mark_count (wait_ref handle g) any_io p.marks ≤ mark_count
      (wait_ref handle g) kind.Claimed p.marks)
      × (mark_count (wait_ref handle g) kind.Shared p.marks
      ≤ mark_count (wait_ref handle g) kind.Claimed p.marks)
  -- (d) the class of an Io mark of the word's generation is the word's
  pub class_of_io : (p : Known) → IsIn p parts → (class : Class)
      → IsIn (make_mark (wait_ref handle w.generation) (kind.Io class)) p.marks → class ≡ w.class
  -- (d) the class of a Local mark is that of its incarnation's Io mark
  pub class_of_local : (p q : Known) → IsIn p parts → IsIn q parts → (g : ℕ) (ended taken : Class)
      → IsIn (make_mark (wait_ref handle g) (kind.Io ended)) p.marks
      → IsIn (make_mark (wait_ref handle g) (kind.Local taken)) q.marks → ended ≡ taken
  -- (f) the pair that an actor has seen is not above the word's
  pub seen : (p : Known) → IsIn p parts
      → IsNotAbove (seen_rank p handle / 8) (seen_rank p handle % 8) w.generation (word_place w)

-- one list by itself: what (b) and (c) say of it
pub record IsLawfulList (c : Config) (p : Known) : Type 0 where
  -- (b) no handle out of range has a mark
  pub in_range : (m : Mark) → IsIn m p.marks → m.handle < handle_count c
  -- (c) an owner's marks stand in the owner's list
  pub in_owner_list : (m : Mark) → IsIn m p.marks → IsOwnerKind m.kind → p.number ≡ owner c m.handle
  -- (c) the marks of a handle stand in the order of its lives
  pub ordered : AllPairs (λ m n. m.handle ≡ n.handle → mark_rank m < mark_rank n) p.marks

-- the lists stand for the words
pub record Stands (c : Config) (words : List Word) (parts : List Known) : Type 0 where
  pub one_per_handle : length words ≡ handle_count c
  -- (a) no two actors have one number
  pub distinct_numbers : (n : ℕ) → sum_by (λ (p : Known). one_if (p.number == n)) parts ≤ 1
  pub each_handle : (h : ℕ) (w : Word) → get_elem? words h ≡ some w → StandsForHandle c parts h w
  pub each_list : (p : Known) → IsIn p parts → IsLawfulList c p
  -- (e) no owner has two handles handed out
  pub one_out : (h i : ℕ) (v w : Word) → get_elem? words h ≡ some v → get_elem? words i ≡ some w
      → v.state ≡ HandedOut → w.state ≡ HandedOut → owner c h ≡ owner c i → h ≡ i

-- what an actor of the machine knows: its marks; the machine keeps no record of what it has seen
abbrev pub known_with_marks : Config → ℕ → List Mark → Known
known_with_marks c n marks = record {
  config = c;
  number = n;
  marks = marks;
  out = None;
  seen = [];
  looks = [];
  aims = [];
}

-- the lists of the machine under the numbers of their actors
abbrev pub machine_parts : Config → ℕ → List (List Mark) → List Known
machine_parts c n [] = []
machine_parts c n (marks ∷ lists) = known_with_marks c n marks ∷ machine_parts c (n + 1) lists

-- the lists of the machine stand for its words
pub record IsLawfulMachine (c : Config) (m : Machine) : Type 0 where
  pub words_match_lists : Stands c m.words (machine_parts c 0 m.lists)
  pub all : length m.lists ≡ actor_count c

-- a state of the machine has these words and, under each actor's number, its list
pub record MachineHasParts (c : Config) (m : Machine) (ws : List Word)
    (parts : List Known) : Type 0 where
  pub words : m.words ≡ ws
  pub lists : (p : Known) → IsIn p parts → slice_get m.lists p.number ≡ Some p.marks
  pub all : length m.lists ≡ actor_count c

-- a moment at which the actor's knowledge is p and the word of the handle is w: a state of the
-- machine, for whose words the lists stand
pub record AtMoment (c : Config) (p : Known) (h : ℕ) (w : Word) : Type 0 where
  pub machine : Machine
  pub parts : List Known
  pub reached : IsReachable c machine
  pub is : MachineHasParts c machine machine.words parts
  pub words_match_lists : Stands c machine.words parts
  pub here : IsIn p parts
  pub all : length parts ≡ actor_count c
  pub word : slice_get machine.words h ≡ Some w
