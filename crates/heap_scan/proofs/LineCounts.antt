-- How many lines a text has.
use Rattle.std.proofs.Common.{◌≡◌, ℕ, zero, suc, ◌+◌, ◌/◌, ◌%◌, ◌==◌, List, [], ◌∷◌, ◌++◌, length}
use Rattle.std.proofs.Common.{Bool, true, false, refl, ap, ◌∙◌, arith, cond, codes}
use Rattle.std.specs.Prelude.{decimal}
use Rattle.std.specs.Fmt.{digits, digits_onto, digit_glyph}
use Rattle.std.specs.List.{concat, sum_by, enumerate_from, flat_map, range_with_len}
use Rattle.std.proofs.lemmas.List.Sums.{sum_by-append, sum_by-cons}
use Rattle.std.proofs.lemmas.List.{length-map}
use Rattle.std.proofs.lemmas.List.FromFn.{length-range_with_len}
use Rattle.std.proofs.lemmas.Bool.Decides.{nat_tests}
use Rattle.page_check.specs.declared.fields.LinePointer.{LinePointer}
use Rattle.page_check.specs.declared.fields.Kind.{Kind}
use Rattle.page_check.specs.declared.fields.Kind.TheVariants.{Unused, Normal, Redirect, Dead}
use Rattle.page_check.specs.declared.fields.PageHeader.{PageHeader}
use Rattle.page_check.specs.declared.verdict.Verdict.{Verdict}
use Rattle.page_check.specs.declared.verdict.Verdict.TheVariants.{Zero, Sane, Bad}
use Rattle.page_check.specs.Fields.{header_of}
use Rattle.page_check.specs.Verdict.{verdict_of, IsValid}
use Rattle.page_check.proofs.ValidPages.{line_pointer_count-zero, is_all_zero-verdict}
use Rattle.page_check.specs.LinePointers.{line_pointer_count, line_pointers_of, line_pointer_of}
use Rattle.heap_scan.specs.PageText.{kind_word, item_line, item_lines, new_line, page_line}
use Rattle.heap_scan.specs.PageText.{line_count, page_text_of}
use Rattle.heap_scan.proofs.Texts.{page_text_of-new, page_text_of-used}

abbrev newline : ℕ → ℕ
newline byte = cond (byte == 10) 1 0

pub line_count-append : (xs ys : List ℕ) → line_count (xs ++ ys) ≡ line_count xs + line_count ys
line_count-append xs ys = sum_by-append newline xs ys

-- the lines of a text are those of its pieces
pub line_count-concat : (pieces : List (List ℕ))
    → line_count (concat pieces) ≡ sum_by line_count pieces
line_count-concat [] = refl
line_count-concat (piece ∷ pieces) =
    omega (
      arith,
      line_count-append piece (concat pieces),
      line_count-concat pieces,
      sum_by-cons line_count piece pieces,
    )

either : (b : Bool) (xs ys : List ℕ) (n : ℕ) → line_count xs ≡ n → line_count ys ≡ n
    → line_count (cond b xs ys) ≡ n
either true xs ys n here there = here
either false xs ys n here there = there

glyph_is_no_newline : (n : ℕ) → newline (digit_glyph false (n % 10)) ≡ 0
glyph_is_no_newline n = grind (arith, nat_tests)

-- digits in front of a text add no line
digits_add_none : (k n : ℕ) (text : List ℕ)
    → line_count (digits_onto k 10 false n text) ≡ line_count text
digits_add_none zero n text = refl
digits_add_none (suc k) n text =
    let glyph = digit_glyph false (n % 10) in
    let one : line_count (glyph ∷ text) ≡ line_count text =
    omega (arith, line_count-append (glyph ∷ []) text, glyph_is_no_newline n) in
    either (n / 10 == 0) (glyph ∷ text) (digits_onto k 10 false (n / 10) (glyph ∷ text))
    (line_count text)
    one (digits_add_none k (n / 10) (glyph ∷ text) ∙ one)

pub line_count-decimal : (n : ℕ) → line_count (decimal n) ≡ 0
unfolding digits
line_count-decimal n = digits_add_none 64 n []

-- what this says of a kind's word, an item's line and the two first lines
line_count-word : (kind : Kind) → line_count (kind_word kind) ≡ 0
line_count-word Unused = refl
line_count-word Normal = refl
line_count-word Redirect = refl
line_count-word Dead = refl

pub line_count-item_line : (item : ℕ × LinePointer) → line_count (item_line item) ≡ 1
line_count-item_line item =
    let pieces : List (List ℕ) =
    codes "item " ∷ decimal item.0 ∷ codes " " ∷ kind_word item.1.kind ∷ codes " "
    ∷ decimal item.1.offset ∷ codes " " ∷ decimal item.1.length ∷ codes "\n" ∷ [] in
    omega (
      arith,
      line_count-concat pieces,
      line_count-decimal item.0,
      line_count-word item.1.kind,
      line_count-decimal item.1.offset,
      line_count-decimal item.1.length,
    )

pub line_count-new_line : (relation block : ℕ) → line_count (new_line relation block) ≡ 1
line_count-new_line relation block =
    let pieces : List (List ℕ) =
    codes "page " ∷ decimal relation ∷ codes " " ∷ decimal block ∷ codes " new\n" ∷ [] in
    omega (arith, line_count-concat pieces, line_count-decimal relation, line_count-decimal block)

pub line_count-page_line : (relation block : ℕ) (header : PageHeader) (items : ℕ)
    → line_count (page_line relation block header items) ≡ 1
line_count-page_line relation block header items =
    let pieces : List (List ℕ) = codes "page " ∷ decimal relation ∷ codes " " ∷ decimal block
    ∷ codes " lower " ∷ decimal header.lower ∷ codes " upper " ∷ decimal header.upper
    ∷ codes " special " ∷ decimal header.special ∷ codes " items " ∷ decimal items
    ∷ codes "\n" ∷ [] in
    omega (
      arith,
      line_count-concat pieces,
      line_count-decimal relation,
      line_count-decimal block,
      line_count-decimal header.lower,
      line_count-decimal header.upper,
      line_count-decimal header.special,
      line_count-decimal items,
    )

items_from : (from : ℕ) (pointers : List LinePointer)
    → line_count (flat_map item_line (enumerate_from from pointers)) ≡ length pointers
items_from from [] = refl
items_from from (pointer ∷ pointers) =
    let rest = flat_map item_line (enumerate_from (from + 1) pointers) in
    omega (
      arith,
      line_count-append (item_line (from, pointer)) rest,
      line_count-item_line (from, pointer),
      items_from (from + 1) pointers,
    )

pub line_count-item_lines : (pointers : List LinePointer)
    → line_count (item_lines pointers) ≡ length pointers
unfolding item_lines
line_count-item_lines pointers = items_from 1 pointers

length-line_pointers_of : (page : List ℕ) → length (line_pointers_of page) ≡ line_pointer_count page
unfolding line_pointers_of
length-line_pointers_of page = length-map (range_with_len 0 (line_pointer_count page))
    (line_pointer_of page)
    ∙ length-range_with_len 0 (line_pointer_count page)

-- a new page has one line
pub new_is_one_line : (relation block : ℕ) (page : List ℕ) → verdict_of page ≡ Zero
    → line_count (page_text_of relation block page) ≡ 1
new_is_one_line relation block page new =
    ap line_count (page_text_of-new relation block page new) ∙ line_count-new_line relation block

used_lines : (relation block : ℕ) (page : List ℕ) → verdict_of page ≡ Sane
    → line_count (page_text_of relation block page) ≡ 1 + line_pointer_count page
used_lines relation block page used =
    let first = page_line relation block (header_of page) (line_pointer_count page) in
    let items = item_lines (line_pointers_of page) in
    ap line_count (page_text_of-used relation block page used)
    ∙ omega (
      arith,
      line_count-append first items,
      line_count-page_line relation block (header_of page) (line_pointer_count page),
      line_count-item_lines (line_pointers_of page),
      length-line_pointers_of page,
    )

lines_by : (verdict : Verdict) (relation block : ℕ) (page : List ℕ) → verdict_of page ≡ verdict
    → IsValid page
    → line_count (page_text_of relation block page) ≡ 1 + line_pointer_count page
lines_by Zero relation block page is valid =
    omega (
      arith,
      new_is_one_line relation block page is,
      line_pointer_count-zero page (is_all_zero-verdict page is),
    )
lines_by Sane relation block page is valid = used_lines relation block page is
lines_by Bad relation block page is valid = absurd (valid is)

-- any valid page has one line, and one more for each line pointer
pub lines_of_valid : (relation block : ℕ) (page : List ℕ) → IsValid page
    → line_count (page_text_of relation block page) ≡ 1 + line_pointer_count page
lines_of_valid relation block page valid = lines_by (verdict_of page) relation block page refl valid
