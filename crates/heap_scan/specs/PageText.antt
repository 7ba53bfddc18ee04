-- The text of a page: a line for the page, and a line for each of its line pointers.
use Rattle.std.specs.Prelude.{◌≡◌, ℕ, ◌+◌, ◌^◌, ◌<◌, ◌==◌, List, [], ◌∷◌, ◌++◌, map, codes, decimal}
use Rattle.std.specs.Prelude.{count_by}
use Rattle.std.specs.List.{concat, flat_map, enumerate_from, range_with_len}
use Rattle.page_check.specs.declared.verdict.Verdict.{Verdict}
use Rattle.page_check.specs.declared.verdict.Verdict.TheVariants.{Zero, Sane, Bad}
use Rattle.page_check.specs.declared.fields.Kind.{Kind}
use Rattle.page_check.specs.declared.fields.Kind.TheVariants.{Unused, Normal, Redirect, Dead}
use Rattle.page_check.specs.declared.fields.LinePointer.{LinePointer}
use Rattle.page_check.specs.declared.fields.PageHeader.{PageHeader}
use Rattle.page_check.specs.Fields.{header_of}
use Rattle.page_check.specs.Verdict.{verdict_of, IsValid}
use Rattle.page_check.specs.LinePointers.{line_pointer_count, line_pointer_of, line_pointers_of}

-- the word for a kind of line pointer
abbrev pub kind_word : Kind → List ℕ
kind_word Unused = codes "unused"
kind_word Normal = codes "normal"
kind_word Redirect = codes "redirect"
kind_word Dead = codes "dead"

-- `item I WORD OFFSET LENGTH`, for a line pointer with its number
abbrev pub item_line : ℕ × LinePointer → List ℕ
item_line item =
    concat (codes "item " ∷ decimal item.0 ∷ codes " " ∷ kind_word item.1.kind
    ∷ codes " " ∷ decimal item.1.offset ∷ codes " " ∷ decimal item.1.length ∷ codes "\n" ∷ [])

-- the lines of line pointers, which are numbered from 1 as in `ItemPointerData`
unfoldable pub item_lines : List LinePointer → List ℕ
item_lines pointers = flat_map item_line (enumerate_from 1 pointers)

-- the lines of so many line pointers from the one at an index on
unfoldable pub lines_from : (ℕ → LinePointer) → ℕ → ℕ → List ℕ
lines_from pointer_at first many =
    flat_map item_line
    (enumerate_from (first + 1) (map pointer_at (range_with_len first many)))

-- `page R B new`
abbrev pub new_line : ℕ → ℕ → List ℕ
new_line relation block =
    concat (codes "page " ∷ decimal relation ∷ codes " " ∷ decimal block ∷ codes " new\n" ∷ [])

-- `page R B lower L upper U special S items N`
abbrev pub page_line : ℕ → ℕ → PageHeader → ℕ → List ℕ
page_line relation block header items =
    concat (codes "page " ∷ decimal relation ∷ codes " " ∷ decimal block
    ∷ codes " lower " ∷ decimal header.lower ∷ codes " upper " ∷ decimal header.upper
    ∷ codes " special " ∷ decimal header.special ∷ codes " items " ∷ decimal items
    ∷ codes "\n" ∷ [])

-- `page R B damaged flags F lower L upper U special S`: all that is listed of a page that is not
-- valid and is given as it is
abbrev pub damaged_line : ℕ → ℕ → PageHeader → List ℕ
damaged_line relation block header =
    concat (codes "page " ∷ decimal relation ∷ codes " " ∷ decimal block
    ∷ codes " damaged flags " ∷ decimal header.flags ∷ codes " lower " ∷ decimal header.lower
    ∷ codes " upper " ∷ decimal header.upper ∷ codes " special " ∷ decimal header.special
    ∷ codes "\n" ∷ [])

unfoldable pub damaged_text_of : ℕ → ℕ → List ℕ → List ℕ
damaged_text_of relation block page = damaged_line relation block (header_of page)

-- the first line: by the verdict, that the page is new, or its header
abbrev pub first_line_by : Verdict → ℕ → ℕ → List ℕ → List ℕ
first_line_by Zero relation block page = new_line relation block
first_line_by Sane relation block page = page_line relation block (header_of page)
    (line_pointer_count page)
first_line_by Bad relation block page = []

unfoldable pub first_line : ℕ → ℕ → List ℕ → List ℕ
first_line relation block page = first_line_by (verdict_of page) relation block page

-- the lines behind it; a new page has none
abbrev pub other_lines_by : Verdict → List ℕ → List ℕ
other_lines_by Zero page = []
other_lines_by Sane page = item_lines (line_pointers_of page)
other_lines_by Bad page = []

-- the text of a valid page
unfoldable pub page_text_of : ℕ → ℕ → List ℕ → List ℕ
page_text_of relation block page =
    first_line relation block page ++ other_lines_by (verdict_of page) page

-- that text up to the lines of so many line pointers
unfoldable pub text_up_to : ℕ → ℕ → List ℕ → ℕ → List ℕ
text_up_to relation block page items =
    first_line relation block page ++ lines_from (line_pointer_of page) 0 items

-- how many lines a text has, each of which ends in a newline
abbrev pub line_count : List ℕ → ℕ
line_count text = count_by (λ byte. byte == 10) text

-- two pages of which the same is printed in the first line
pub record PrintsSame (page other : List ℕ) : Type 0 where
  pub verdict : verdict_of other ≡ verdict_of page
  pub lower : (header_of other).lower ≡ (header_of page).lower
  pub upper : (header_of other).upper ≡ (header_of page).upper
  pub special : (header_of other).special ≡ (header_of page).special

-- the first line tells the place and the header: no other place and no valid page with another
-- header has it
abbrev pub FirstLineTells : ℕ → ℕ → List ℕ → Type 0
FirstLineTells relation block page =
    (r b : ℕ) (other : List ℕ) → r < 2 ^ 32 → b < 2 ^ 32 → IsValid other
    → first_line r b other ≡ first_line relation block page
    → (r ≡ relation) × (b ≡ block) × PrintsSame page other
