-- The line pointers of the pages that are given for a list of blocks.
use Rattle.std.specs.Prelude.{◌≡◌, ℕ, List, length, Option, Some, None, ⊤}
use Rattle.std.specs.List.{sum_by}
use Rattle.page_check.specs.Told.{Told}
use Rattle.page_check.specs.LinePointers.{line_pointer_count}
use Rattle.page_check.specs.declared.rules.PageRules.{PageRules}
use Rattle.page_check.specs.SynchronousAnswer.{Entry, Given, Ending, reading_of}
use Rattle.page_check.specs.IsAnswer.{IsAnswer, Next, Page, Stop}
use Rattle.stream_answer.specs.StreamAnswers.{stream_entries}
use Rattle.read_stream.specs.StreamViews.{StreamView}

-- how many the page has, where the answer gives one
abbrev pub answer_items : Next (Unit {0}) → Option ℕ
answer_items (Page given) = Some (line_pointer_count given.page)
answer_items (Stop end) = None

-- so many pages have so many line pointers, and the pages with these endings are what may be
-- answered to the entries
pub record ItemsCounted (rules : PageRules) (told : Option Told) (entries : List (Entry (Unit {0})))
    (endings : List Ending) (items count : ℕ) : Type 0 where
  pub pages : List (Given (Unit {0}))
  pub items_are : items ≡ sum_by (λ g. line_pointer_count g.page) pages
  pub count_is : count ≡ length pages
  pub answers : IsAnswer (reading_of rules told) (λ _. ⊤) entries
      (record { pages = pages; endings = endings })

-- the same of the entries of a stream
abbrev pub StreamCounted : Option Told → StreamView (Unit {0}) → List Ending → ℕ → ℕ → Type 0
StreamCounted told s endings items count =
    ItemsCounted s.settings.rules told (stream_entries s.relation s.blocks) endings items count
