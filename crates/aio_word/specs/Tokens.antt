-- What an actor's own list tells of an incarnation, and how a list grows.
use Rattle.std.specs.Prelude.{◌≡◌, ℕ, ◌+◌, ◌*◌, ◌<◌, ◌≤◌, ◌++◌, ◌==◌, List, count_by, Bool, false}
use Rattle.aio_word.specs.declared.WaitRef.{WaitRef}
use Rattle.aio_word.specs.declared.Class.{Class}
use Rattle.aio_word.specs.declared.Mark.{Mark}
use Rattle.aio_word.specs.declared.Known.{Known}
use Rattle.aio_word.specs.declared.Kind.{Kind}
use Rattle.aio_word.specs.declared.Kind.TheVariants as kind
use Rattle.aio_word.specs.Words.{number_of_class}
use Rattle.aio_word.specs.Events.{count_at_rank, mark_count, any_io, any_local, kind_place}
pub use Rattle.aio_word.specs.Events.{make_mark}
use Rattle.aio_word.specs.Stands.{IsIn, seen_rank}

-- defined by this actor, and not staged, submitted, taken or reclaimed
pub record IsDefined (p : Known) (t : WaitRef) : Type 0 where
  pub since : 0 < mark_count t kind.Defined p.marks
  pub until : mark_count t kind.Staged p.marks + mark_count t kind.Submitted p.marks
      + mark_count t any_local p.marks
      + mark_count t kind.Reclaimed p.marks ≡ 0

-- staged by this actor, and not submitted, taken or reclaimed
pub record IsStaged (p : Known) (t : WaitRef) : Type 0 where
  pub since : 0 < mark_count t kind.Staged p.marks
  pub until : mark_count t kind.Submitted p.marks + mark_count t any_local p.marks
      + mark_count t kind.Reclaimed p.marks ≡ 0

-- submitted by this actor, and its result not taken
pub record IsInFlight (p : Known) (t : WaitRef) : Type 0 where
  pub since : 0 < mark_count t kind.Submitted p.marks
  pub until : mark_count t any_local p.marks + mark_count t kind.Reclaimed p.marks ≡ 0

-- its result taken by this actor, and not reclaimed
pub record IsLocal (p : Known) (t : WaitRef) : Type 0 where
  pub since : 0 < mark_count t any_local p.marks
  pub until : mark_count t kind.Reclaimed p.marks ≡ 0

-- claimed by this actor, and not executed
pub record IsClaimed (p : Known) (t : WaitRef) : Type 0 where
  pub since : 0 < mark_count t kind.Claimed p.marks
  pub until : mark_count t any_io p.marks + mark_count t kind.Shared p.marks ≡ 0

-- executed by this actor with that class, and not completed
pub record IsExecuted (class : Class) (p : Known) (t : WaitRef) : Type 0 where
  pub since : IsIn (make_mark t (kind.Io class)) p.marks
  pub until : mark_count t kind.Shared p.marks ≡ 0

-- the actor has seen the incarnation done: its handle at CompletedShared (place 6) or later
abbrev pub HasSeenDone : Known → WaitRef → Type 0
HasSeenDone p t = 8 * t.generation + 6 ≤ seen_rank p t.handle

-- how many marks of an incarnation the list has of those that an owner makes
abbrev pub owner_mark_count : WaitRef → List Mark → ℕ
owner_mark_count t ms = mark_count t kind.Defined ms + mark_count t kind.Staged ms
    + mark_count t kind.Submitted ms + mark_count t any_local ms
    + mark_count t kind.Reclaimed ms

-- whether it is a Claimed mark, an Io mark, an Io mark of an operation that failed
abbrev pub is_claim : Mark → Bool
is_claim m = kind_place m.kind == 3

abbrev pub is_io : Mark → Bool
is_io m = kind_place m.kind == 4

abbrev pub is_failed : Kind → Bool
is_failed (kind.Io class) = number_of_class class == 3
is_failed _ = false

-- whether it is a Local mark, the result, of an operation that failed
abbrev pub is_failed_result : Kind → Bool
is_failed_result (kind.Local class) = number_of_class class == 3
is_failed_result _ = false

-- how many Claimed marks, Io marks, failed Io marks and failed Local marks a list has
abbrev pub claimed_mark_count : List Mark → ℕ
claimed_mark_count ms = count_by is_claim ms

abbrev pub io_mark_count : List Mark → ℕ
io_mark_count ms = count_by is_io ms

abbrev pub failed_mark_count : List Mark → ℕ
failed_mark_count ms = count_by (λ m. is_failed m.kind) ms

abbrev pub failed_result_count : List Mark → ℕ
failed_result_count ms = count_by (λ m. is_failed_result m.kind) ms

-- marks of incarnations that were taken up, each claimed, executed and completed
pub record ClaimsAreCompleted (more : List Mark) : Type 0 where
  pub owners : (t : WaitRef) → owner_mark_count t more ≡ 0
  pub io : (t : WaitRef) → mark_count t any_io more ≡ mark_count t kind.Claimed more
  pub shared : (t : WaitRef) → mark_count t kind.Shared more ≡ mark_count t kind.Claimed more
  pub all : io_mark_count more ≡ claimed_mark_count more

-- an actor's own list has each mark at most once, and the actor has seen past each
pub record MarksOnceAndSeen (seen : ℕ → ℕ) (marks : List Mark) : Type 0 where
  pub once : (h n : ℕ) → count_at_rank h n marks ≤ 1
  pub below : (h n : ℕ) → 0 < count_at_rank h n marks → n < seen h

-- the actor appended these marks, and what it knew besides only grew
pub record AppendsMarks (p q : Known) (more : List Mark) : Type 0 where
  pub number : q.number ≡ p.number
  pub config : q.config ≡ p.config
  pub out : q.out ≡ p.out
  pub marks : q.marks ≡ p.marks ++ more
  pub seen : (h : ℕ) → seen_rank p h ≤ seen_rank q h
  pub aims : (e : WaitRef × List ℕ) → IsIn e p.aims → IsIn e q.aims
  pub looks : (l : List _) × (q.looks ≡ p.looks ++ l)
