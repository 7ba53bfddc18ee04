-- What a call that makes an event, or a look, tells of it.
use Rattle.std.specs.Prelude.{◌≡◌, ◌≢◌, ◌↔◌, ℕ, ◌+◌, ◌<◌, ◌≤◌}
use Rattle.std.specs.Prelude.{nat_lt, Bool, IsTrue, false, List, [], Some}
use Rattle.std.specs.List.{AllPairs}
use Rattle.aio_word.specs.declared.Class.TheVariants.{Unended}
use Rattle.aio_word.specs.declared.Kind.{Kind}
use Rattle.aio_word.specs.declared.Kind.TheVariants as kind
use Rattle.aio_word.specs.Tokens.{make_mark}
use Rattle.aio_word.specs.declared.Config.{Config}
use Rattle.aio_word.specs.declared.Step.{Step as Event}
use Rattle.aio_word.specs.declared.Word.{Word}
use Rattle.aio_word.specs.declared.WaitRef.{WaitRef}
use Rattle.aio_word.specs.declared.Class.{Class}
use Rattle.aio_word.specs.declared.State.TheVariants.{CompletedShared}
use Rattle.aio_word.specs.declared.Known.{Known}
use Rattle.aio_word.specs.Words.{IsLawful, IsDone, word_rank}
use Rattle.aio_word.specs.Events.{owner, lives_ended, word_after, make_word, mark_count, kind_place}
use Rattle.aio_word.specs.Events.{mark_rank, machine_after}
use Rattle.aio_word.specs.Stands.{IsIn, one_if, seen_rank, mark_total, AtMoment}
use Rattle.aio_handle.specs.declared.record.Label.{Label}
use Rattle.aio_handle.specs.LifeWords.{taken_word}
use Rattle.aio_handle.specs.KnownChanges.{known_after, known_after_look}
use Rattle.aio_word.specs.declared.Step.TheVariants as step

-- by the actor's marks, the generation of one of its own handles: one more for each life that ended
abbrev pub generation_of : Config → Known → ℕ → ℕ
generation_of c p handle = c.start + lives_ended handle p.marks

-- the events of the owner
abbrev pub IsByOwner : Event → Type 0
IsByOwner step.Claim = ⊥
IsByOwner (step.Io class) = ⊥
IsByOwner step.Shared = ⊥
IsByOwner _ = Unit {0}

-- the actor that knew p made the event on the handle h, whose word was w, and now knows q
pub record EventMade (e : Event) (h : ℕ) (w w' : Word) (aim : List ℕ) (p q : Known) : Type 0 where
  -- the moments right before the event and right after it
  pub moment : AtMoment p.config p h w
  pub then : AtMoment q.config q h w'
  -- the event takes the machine of the one to that of the other
  pub is_step : machine_after p.config moment.machine
      record { actor = p.number; handle = h; generation = w.generation; step = e }
      ≡ Some then.machine
  pub row : word_after w e ≡ Some w'
  pub is : q ≡ known_after e h w w' aim p
  pub before : seen_rank p h ≤ word_rank w
  pub now : seen_rank q h ≡ word_rank w'
  -- an owner's event is on a handle of its own, whose generation its marks tell
  pub by_owner : IsByOwner e → p.number ≡ owner p.config h
  pub own_generation : p.number ≡ owner p.config h → w.generation ≡ generation_of p.config p h

-- the actor that knew p found the word w at the handle h, and now knows q
pub record WordLoaded (h : ℕ) (w : Word) (p q : Known) : Type 0 where
  pub moment : AtMoment p.config p h w
  pub lawful : IsLawful w
  pub is : q ≡ known_after_look h w p
  pub before : seen_rank p h ≤ word_rank w
  pub now : seen_rank q h ≡ word_rank w

-- the word says that the incarnation of that generation is completed, and that its owner has not
-- taken the result
abbrev pub IsCompleted : Word → ℕ → Type 0
IsCompleted w generation = (w.state ≡ CompletedShared) × (w.generation ≡ generation)

-- a load that found the incarnation completed, then the event Local with the class of the word,
-- and the label of the record that came
pub record TakesResult (t : WaitRef) (p q : Known) (l : Label) : Type 0 where
  pub between : Known
  pub found : Word
  pub class : Class
  pub word_load : WordLoaded t.handle found p between
  pub completed : IsCompleted found t.generation
  pub event_made : EventMade step.Local t.handle (make_word CompletedShared false class t.generation)
      (taken_word class t.generation) [] between q
  pub ended : class ≢ Unended
  pub label : l ≡
      record { handle = t.handle; generation = t.generation; ended = class; settled = false }

-- a load of the word of the incarnation t, and what it answers
pub record CheckAnswer (t : WaitRef) (answer : Bool) (p q : Known) : Type 0 where
  pub word : Word
  pub word_load : WordLoaded t.handle word p q
  pub exact : IsTrue answer ↔ IsDone word t.generation
  -- where the answer is true, the incarnation's Shared mark stands once over all lists, whatever
  -- came since
  pub shared : IsTrue answer → p.config.start ≤ t.generation
      → mark_total t kind.Shared word_load.moment.parts ≡ 1

-- in a table of one actor: the marks of t from Defined to Local stand once each in its list, in
-- the order of the life, and the Io mark has this class
pub record HasWholeLife (t : WaitRef) (class : Class) (q : Known) : Type 0 where
  pub once : (k : Kind) → mark_count t k q.marks ≡ one_if (nat_lt (kind_place k) 7)
  pub ordered : AllPairs (λ m n. m.handle ≡ n.handle → mark_rank m < mark_rank n) q.marks
  pub executed : IsIn (make_mark t (kind.Io class)) q.marks
