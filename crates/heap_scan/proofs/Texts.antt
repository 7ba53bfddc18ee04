-- The text of a page by its verdict.
use Rattle.std.proofs.Common.{◌≡◌, ℕ, List, ◌++◌, refl, append-nil}
use Rattle.page_check.specs.declared.verdict.Verdict.TheVariants.{Zero, Sane}
use Rattle.page_check.specs.Fields.{header_of}
use Rattle.page_check.specs.Verdict.{verdict_of}
use Rattle.page_check.specs.LinePointers.{line_pointer_count, line_pointers_of}
use Rattle.heap_scan.specs.PageText.{page_text_of, first_line, new_line, page_line, item_lines}

pub first_line-new : (relation block : ℕ) (page : List ℕ) → verdict_of page ≡ Zero
    → first_line relation block page ≡ new_line relation block
unfolding first_line
first_line-new relation block page new = rw new refl

pub first_line-used : (relation block : ℕ) (page : List ℕ) → verdict_of page ≡ Sane
    → first_line relation block page ≡ page_line relation block (header_of page)
    (line_pointer_count page)
unfolding first_line
first_line-used relation block page used = rw used refl

pub page_text_of-new : (relation block : ℕ) (page : List ℕ) → verdict_of page ≡ Zero
    → page_text_of relation block page ≡ new_line relation block
unfolding page_text_of first_line
page_text_of-new relation block page new = rw new (append-nil (new_line relation block))

pub page_text_of-used : (relation block : ℕ) (page : List ℕ) → verdict_of page ≡ Sane
    → page_text_of relation block page ≡ page_line relation block (header_of page)
    (line_pointer_count page)
    ++ item_lines (line_pointers_of page)
unfolding page_text_of first_line
page_text_of-used relation block page used = rw used refl
