-- What a consumer has taken.
use Rattle.std.specs.Prelude.{◌≡◌, ℕ, ◌<◌, List, [], ◌∷◌, ◌++◌, length, Option, Some, None, ⊤}
use Rattle.page_check.specs.Told.{Told}
use Rattle.page_check.specs.declared.rules.PageRules.{PageRules}
use Rattle.page_check.specs.SynchronousAnswer.{Entry, Given, Ending, reading_of}
use Rattle.page_check.specs.SynchronousAnswer as said
use Rattle.page_check.specs.IsAnswer.{IsAnswer, Next, Page, Stop}
use Rattle.aio_handle.specs.Execution.{last_count}
use Rattle.stream_answer.specs.StreamAnswers.{stream_entries}
use Rattle.read_stream.specs.StreamViews.{StreamView}
use Rattle.page_reader.specs.declared.consumer.Ended.{Ended}
use Rattle.page_reader.specs.declared.consumer.Ended.TheVariants as ended

-- what is said of the pages that were taken
abbrev pub PagesPredicate : Type 1
PagesPredicate = List (Given (Unit {0})) → Type 0

-- the ending that synchronous reads have there: none where the consumer wanted no more
abbrev pub endings_of : Ended → List Ending
endings_of ended.End = said.End ∷ []
endings_of ended.Stopped = []
endings_of (ended.Invalid block) = said.Invalid block ∷ []
endings_of (ended.Unread block) = said.Unread block ∷ []
endings_of (ended.PastEnd block) = said.PastEnd block ∷ []

-- the page is held behind those before it
abbrev pub PageHeld : PagesPredicate → PagesPredicate → Given (Unit {0}) → Type 0
PageHeld was is given = (pages : List (Given (Unit {0}))) → was pages → is (pages ++ given ∷ [])

-- one answer: its page is taken, and then the consumer may stop; or it is an ending
abbrev pub AnswerTaken : PagesPredicate → PagesPredicate → Next (Unit {0}) → Option Ended → Type 0
AnswerTaken was is (Page given) None = PageHeld was is given
AnswerTaken was is (Page given) (Some e) = (endings_of e ≡ []) × PageHeld was is given
AnswerTaken was is (Stop end) None = ⊥
AnswerTaken was is (Stop end) (Some e) = (endings_of e ≡ end ∷ [])
    × ((pages : List (Given (Unit {0}))) → was pages → is pages)

-- some pages are held; they and the ending are what synchronous reads of these entries, by these
-- rules, may answer. An entry may be unread where `may` says so
pub record PagesTakenWhere (may : Entry (Unit {0}) → Type 0) (holds : PagesPredicate)
    (rules : PageRules) (told : Option Told) (entries : List (Entry (Unit {0}))) (ended : Ended)
    : Type 0 where
  pub pages : List (Given (Unit {0}))
  pub held : holds pages
  pub answers : IsAnswer (reading_of rules told) may entries
      (record { pages = pages; endings = endings_of ended })

-- whichever entry may be unread
abbrev pub PagesTaken : PagesPredicate → PageRules → Option Told → List (Entry (Unit {0})) → Ended
    → Type 0
PagesTaken holds rules told entries ended = PagesTakenWhere (λ _. ⊤) holds rules told entries ended

-- the pages that a stream has given so far are held
pub record TakenSoFar (holds : PagesPredicate) (told : Option Told) (s : StreamView (Unit {0}))
    : Type 0 where
  pub pages : List (Given (Unit {0}))
  pub held : holds pages
  pub given : s.given ≡ length pages
  pub answers : IsAnswer (reading_of s.settings.rules told) (λ _. ⊤)
      (stream_entries s.relation s.blocks) (record { pages = pages; endings = [] })

-- a read of a disk has failed between these two counts of its faults: the count rose, or stands at
-- its last value
abbrev pub ReadHasFailed : ℕ → ℕ → Type 0
ReadHasFailed before now = now < last_count → before < now

-- a block is unread only where a read has failed
abbrev pub UnreadHasCause : ℕ → ℕ → Ended → Type 0
UnreadHasCause before now ended.End = ⊤
UnreadHasCause before now ended.Stopped = ⊤
UnreadHasCause before now (ended.Invalid block) = ⊤
UnreadHasCause before now (ended.Unread block) = ReadHasFailed before now
UnreadHasCause before now (ended.PastEnd block) = ⊤

-- where the pages ended since the consumer wanted no more
abbrev pub IfStopped : Type 0 → Ended → Type 0
IfStopped holds ended.End = ⊤
IfStopped holds ended.Stopped = holds
IfStopped holds (ended.Invalid block) = ⊤
IfStopped holds (ended.Unread block) = ⊤
IfStopped holds (ended.PastEnd block) = ⊤
