-- The text of a page with its tuples: the lines of the page and of its line pointers, a line for
-- the header of each normal item, and one for the update chains.
use Rattle.std.specs.Prelude.{ℕ, ◌+◌, List, [], ◌∷◌, ◌++◌, Option, Some, None, length, codes}
use Rattle.std.specs.Prelude.{decimal}
use Rattle.std.specs.List.{concat, flat_map, range_with_len}
use Rattle.page_check.specs.declared.fields.Kind.{Kind}
use Rattle.page_check.specs.declared.fields.Kind.TheVariants.{Unused, Normal, Redirect, Dead}
use Rattle.page_check.specs.declared.verdict.Verdict.{Verdict}
use Rattle.page_check.specs.declared.verdict.Verdict.TheVariants.{Zero, Sane, Bad}
use Rattle.page_check.specs.Fields.{header_of}
use Rattle.page_check.specs.Verdict.{verdict_of}
use Rattle.page_check.specs.LinePointers.{line_pointer_count, line_pointer_of}
use Rattle.heap_scan.specs.PageText.{item_line, page_line, page_text_of}
use Rattle.heap_tuple.specs.declared.header.TupleHeader.{TupleHeader}
use Rattle.heap_tuple.specs.Tuples.{tuple_of, step_of}
use Rattle.heap_tuple.specs.Chains.{roots_of, longest_of}

-- ` step J`, where there is a step
abbrev pub step_part : Option ℕ → List ℕ
step_part None = []
step_part (Some next) = codes " step " ++ decimal (next + 1)

-- `tuple I xmin A xmax B`
abbrev pub xids_part : ℕ → TupleHeader → List ℕ
xids_part number header =
    concat (codes "tuple " ∷ decimal number ∷ codes " xmin " ∷ decimal header.xmin
    ∷ codes " xmax " ∷ decimal header.xmax ∷ [])

-- ` field3 C ctid (D,P`
abbrev pub ctid_part : TupleHeader → List ℕ
ctid_part header =
    concat (codes " field3 " ∷ decimal header.field3 ∷ codes " ctid (" ∷ decimal header.block
    ∷ codes "," ∷ decimal header.position ∷ [])

-- `) attrs K mask M hoff H`, then the step
abbrev pub marks_part : TupleHeader → Option ℕ → List ℕ
marks_part header step =
    concat (codes ") attrs " ∷ decimal header.attrs ∷ codes " mask " ∷ decimal header.mask
    ∷ codes " hoff " ∷ decimal header.hoff ∷ step_part step ∷ codes "\n" ∷ [])

-- `tuple I xmin A xmax B field3 C ctid (D,P) attrs K mask M hoff H`, then the step
abbrev pub inside_line : ℕ → TupleHeader → Option ℕ → List ℕ
inside_line number header step =
    xids_part number header ++ (ctid_part header ++ marks_part header step)

-- `tuple I outside`
abbrev pub outside_line : ℕ → List ℕ
outside_line number = concat (codes "tuple " ∷ decimal number ∷ codes " outside\n" ∷ [])

abbrev pub tuple_line : ℕ → Option TupleHeader → Option ℕ → List ℕ
tuple_line number None step = outside_line number
tuple_line number (Some header) step = inside_line number header step

-- only a normal item has a tuple
abbrev pub tuple_part : Kind → List ℕ → List ℕ
tuple_part Unused line = []
tuple_part Normal line = line
tuple_part Redirect line = []
tuple_part Dead line = []

-- the lines of the item at an index; items are numbered from 1
unfoldable pub item_text : List ℕ → ℕ → ℕ → List ℕ
item_text page block index =
    item_line (index + 1, line_pointer_of page index)
    ++ tuple_part (line_pointer_of page index).kind
    (tuple_line (index + 1) (tuple_of page index) (step_of page block index))

-- those of so many items from an index on, and of all
unfoldable pub texts_from : List ℕ → ℕ → ℕ → ℕ → List ℕ
texts_from page block first many = flat_map (item_text page block) (range_with_len first many)

unfoldable pub item_texts : List ℕ → ℕ → List ℕ
item_texts page block = flat_map (item_text page block) (range_with_len 0 (line_pointer_count page))

-- `chains N longest L`
abbrev pub chains_line : ℕ → ℕ → List ℕ
chains_line roots longest =
    concat (codes "chains " ∷ decimal roots ∷ codes " longest " ∷ decimal longest ∷ codes "\n" ∷ [])

-- by the verdict: a new page has its one line
abbrev pub tuples_text_by : Verdict → ℕ → ℕ → List ℕ → List ℕ
tuples_text_by Zero relation block page = page_text_of relation block page
tuples_text_by Sane relation block page =
    page_line relation block (header_of page) (line_pointer_count page)
    ++ (item_texts page block ++ chains_line (length (roots_of page block)) (longest_of page block))
tuples_text_by Bad relation block page = []

unfoldable pub tuples_text_of : ℕ → ℕ → List ℕ → List ℕ
tuples_text_of relation block page = tuples_text_by (verdict_of page) relation block page

-- the text of a page that is not new up to the lines of so many items
unfoldable pub tuples_text_up_to : ℕ → ℕ → List ℕ → ℕ → List ℕ
tuples_text_up_to relation block page items =
    page_line relation block (header_of page) (line_pointer_count page)
    ++ texts_from page block 0 items
