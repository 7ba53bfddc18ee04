-- A consumer takes the answers of a stream, one after the other.
use Rattle.std.proofs.Common.{◌≡◌, ℕ, ◌+◌, ◌<◌, ◌≤◌, List, [], ◌∷◌, ◌++◌, length, refl, sym}
use Rattle.std.proofs.Common.{subst, arith, length-append}
use Rattle.std.specs.Prelude.{Option, Some, None, IfNone, IfSome, ⊤}
use Rattle.page_check.specs.Told.{Told}
use Rattle.page_check.specs.SynchronousAnswer.{Entry, Given, Ending, reading_of}
use Rattle.page_check.specs.IsAnswer.{IfGiven, IfPage, IsAnswer, IsNext, Next as Said, Page, Stop}
use Rattle.page_check.specs.declared.rules.PageMark.{PageMark}
use Rattle.page_check.proofs.AnswersInOrder.{answered_none, answered_next}
use Rattle.stream_answer.specs.StreamAnswers.{stream_entries, synchronous_answer}
use Rattle.stream_answer.specs.declared.answer.Next.{Next}
use Rattle.stream_answer.specs.declared.answer.Next.TheVariants as next
use Rattle.stream_answer.proofs.AnswerPages.{page_anyway, pages_anyway}
use Rattle.aio_handle.specs.ContractViews.{ActorView}
use Rattle.read_stream.specs.StreamViews.{StreamView, stream_after}
use Rattle.page_reader.specs.declared.consumer.Ended.{Ended}
use Rattle.page_reader.specs.PagesTaken.{PagesPredicate, AnswerTaken, PagesTakenWhere, TakenSoFar}
use Rattle.page_reader.specs.PagesTaken.{endings_of}

pub nothing_taken : (holds : PagesPredicate) (told : Option Told) (s : StreamView (Unit {0}))
    → holds [] → s.given ≡ 0 → TakenSoFar holds told s
nothing_taken holds told s held none = record {
  pages = [];
  held = held;
  given = none;
  answers = answered_none (reading_of s.settings.rules told) (λ _. ⊤)
      (stream_entries s.relation s.blocks);
}

-- what holds of a page that is given, by its mark and bytes, does so whatever the relation
pub whatever_relation : (P : PageMark → List ℕ → Type 0) (a : Next (Unit {0})) (r : ℕ)
    → IfGiven (synchronous_answer r a) (λ g. P g.mark g.page) → (other : ℕ)
    → IfGiven (synchronous_answer other a) (λ g. P g.mark g.page)
whatever_relation P (next.Page page block info) r is other = is
whatever_relation P (next.Zeroed page block info) r is other = is
whatever_relation P (next.Damaged page block info) r is other = is
whatever_relation P next.End r is other = tt
whatever_relation P (next.Invalid block) r is other = tt
whatever_relation P (next.Unread block) r is other = tt
whatever_relation P (next.PastEnd block) r is other = tt

-- where a page is answered, the consumer has room for it
pub has_room : (holds : PagesPredicate) (told : Option Told) (s : StreamView (Unit {0})) (most : ℕ)
    (said : Said (Unit {0})) → length s.blocks ≤ most → TakenSoFar holds told s
    → IfPage said (λ _. s.given < length s.blocks)
    → IfGiven said (λ _. (pages : List (Given (Unit {0}))) × holds pages × (length pages < most))
has_room holds told s most (Page g) few so_far within =
    (so_far.pages, so_far.held, omega (arith, so_far.given))
has_room holds told s most (Stop end) few so_far within = tt

module _ (was is : PagesPredicate) (told : Option Told) (s : StreamView (Unit {0}))
    (may : Entry (Unit {0}) → Type 0) (so_far : TakenSoFar was told s) where
  abbrev entries : List (Entry (Unit {0}))
  entries = stream_entries s.relation s.blocks

  -- the answer is next behind the pages that were taken
  behind : (said : Said (Unit {0})) → IsNext (reading_of s.settings.rules told) may entries s.given
      said → IsNext (reading_of s.settings.rules told) may entries (length so_far.pages) said
  behind said next = subst (λ (n : ℕ). IsNext (reading_of s.settings.rules told) may entries n said)
      so_far.given next

  -- the page was taken, and more are wanted
  pub taken_more : (now : ActorView) (said : Said (Unit {0})) (result : Option Ended)
      → IsNext (reading_of s.settings.rules told) may entries s.given said
      → AnswerTaken was is said result
      → IfNone result (TakenSoFar is told (stream_after s now said))
  taken_more now said (Some e) next takes = tt
  taken_more now (Stop end) None next takes = absurd takes
  taken_more now (Page g) None next takes = record {
    pages = so_far.pages ++ g ∷ [];
    held = takes so_far.pages so_far.held;
    given = omega (arith, so_far.given, length-append so_far.pages (g ∷ []));
    answers = answered_next (reading_of s.settings.rules told) (λ _. ⊤) entries so_far.pages
        (Page g) so_far.answers (page_anyway (reading_of s.settings.rules told) may entries
        (length so_far.pages) g (behind (Page g) next));
  }

  with_endings : (pages : List (Given (Unit {0}))) (ends ends' : List Ending) → ends' ≡ ends
      → IsAnswer (reading_of s.settings.rules told) may entries
      (record { pages = pages; endings = ends })
      → IsAnswer (reading_of s.settings.rules told) may entries
      (record { pages = pages; endings = ends' })
  with_endings pages ends ends' same answers =
      subst (λ (es : List Ending). IsAnswer (reading_of s.settings.rules told) may entries
      (record { pages = pages; endings = es })) (sym same) answers

  ended : (said : Said (Unit {0})) (e : Ended)
      → IsNext (reading_of s.settings.rules told) may entries s.given said
      → AnswerTaken was is said (Some e)
      → PagesTakenWhere may is s.settings.rules told entries e
  ended (Page g) e next takes = record {
    pages = so_far.pages ++ g ∷ [];
    held = takes.1 so_far.pages so_far.held;
    answers = with_endings (so_far.pages ++ g ∷ []) [] (endings_of e) takes.0
        (answered_next (reading_of s.settings.rules told) may entries so_far.pages (Page g)
        (pages_anyway (reading_of s.settings.rules told) may entries so_far.pages so_far.answers)
        (behind (Page g) next));
  }
  ended (Stop end) e next takes = record {
    pages = so_far.pages;
    held = takes.1 so_far.pages so_far.held;
    answers = with_endings so_far.pages (end ∷ []) (endings_of e) takes.0
        (answered_next (reading_of s.settings.rules told) may entries so_far.pages (Stop end)
        (pages_anyway (reading_of s.settings.rules told) may entries so_far.pages so_far.answers)
        (behind (Stop end) next));
  }

  -- the last answer was taken
  pub taken_last : (said : Said (Unit {0})) (result : Option Ended)
      → IsNext (reading_of s.settings.rules told) may entries s.given said
      → AnswerTaken was is said result
      → IfSome result (λ e. PagesTakenWhere may is s.settings.rules told entries e)
  taken_last said None next takes = tt
  taken_last said (Some e) next takes = ended said e next takes

-- where more are wanted, a page was given
pub moves : (was is : PagesPredicate) (s : StreamView (Unit {0})) (now : ActorView)
    (said : Said (Unit {0})) (result : Option Ended)
    → IfPage said (λ _. s.given < length s.blocks) → AnswerTaken was is said result
    → IfNone result (((stream_after s now said).given ≡ s.given + 1)
    × (s.given < length s.blocks))
moves was is s now said (Some e) within takes = tt
moves was is s now (Stop end) None within takes = absurd takes
moves was is s now (Page g) None within takes = (refl, within)
