-- What a caller's proof may need: of the pages that were taken, and of what is held.
use Rattle.std.proofs.Common.{◌≡◌, List, sym}
use Rattle.std.specs.Prelude.{Option, Some}
use Rattle.std.specs.List.{All}
use Rattle.page_check.specs.Told.{Told}
use Rattle.page_check.specs.declared.rules.PageRules.{PageRules}
use Rattle.page_check.specs.SynchronousAnswer.{Entry, Given, IsValidUnlessDamaged}
use Rattle.page_check.specs.SynchronousAnswer.{AllowsMark, found_at, readable_pages}
use Rattle.page_check.proofs.AnswersInOrder.{begins_all}
use Rattle.stream_answer.proofs.AnswerPages.{first_allowed, first_valid}
use Rattle.page_reader.specs.declared.consumer.Ended.{Ended}
use Rattle.page_reader.specs.declared.consumer.Ended.TheVariants.{End}
use Rattle.page_reader.specs.PagesTaken.{PagesPredicate, PagesTaken}

-- what holds of the pages, where less is asked
pub held_as : (holds less : PagesPredicate) (rules : PageRules) (told : Option Told)
    (entries : List (Entry (Unit {0}))) (e : Ended)
    → ((pages : List (Given (Unit {0}))) → holds pages → less pages)
    → PagesTaken holds rules told entries e → PagesTaken less rules told entries e
held_as holds less rules told entries e fewer taken = record {
  pages = taken.pages;
  held = fewer taken.pages taken.held;
  answers = taken.answers;
}

module _ (holds : PagesPredicate) (rules : PageRules) (told : Option Told)
    (entries : List (Entry (Unit {0}))) (e : Ended) (taken : PagesTaken holds rules told entries e)
  where
    -- each page is valid, or marked as damaged
    pub pages_valid : All (λ g. IsValidUnlessDamaged g.mark g.page) taken.pages
    pages_valid = first_valid rules told entries taken.pages taken.answers.first

    -- and has a mark that the rules allow
    pub marks_allowed : All (λ g. AllowsMark rules.damaged g.mark) taken.pages
    marks_allowed = first_allowed rules told entries taken.pages taken.answers.first

-- where contents are told, the pages of a reading that came to its end are all that can be read
pub pages_are_all : (holds : PagesPredicate) (rules : PageRules) (told : Told)
    (entries : List (Entry (Unit {0}))) (taken : PagesTaken holds rules (Some told) entries End)
    → taken.pages ≡ readable_pages (found_at rules told) entries
pages_are_all holds rules told entries taken =
    sym (begins_all taken.pages (readable_pages (found_at rules told) entries) taken.answers.first
    taken.answers.endings.0.0)
