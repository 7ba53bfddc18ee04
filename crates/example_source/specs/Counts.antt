-- Line pointers of pages.
use Rattle.std.specs.Prelude.{◌≡◌, ℕ, List, Option}
use Rattle.std.specs.List.{sum_by}
use Rattle.page_check.specs.LinePointers.{line_pointer_count}
use Rattle.page_check.specs.declared.rules.PageRules.{PageRules}
use Rattle.page_check.specs.SynchronousAnswer.{Given}
use Rattle.page_check.specs.Told.{Told}
use Rattle.stream_answer.specs.StreamAnswers.{stream_entries}
use Rattle.page_reader.specs.PagesTaken.{PagesTaken}
use Rattle.example_source.specs.declared.Count.{Count}

abbrev pub count_items : List (Given (Unit {0})) → ℕ
count_items pages = sum_by (λ g. line_pointer_count g.page) pages

-- the count of the pages of these blocks of relation 0, and how they ended
abbrev pub IsCountOf : PageRules → Option Told → List (ℕ × Unit {0}) → Count → Type 0
IsCountOf rules told blocks count = PagesTaken (λ pages. count.items ≡ count_items pages) rules told
    (stream_entries 0 blocks) count.ended
