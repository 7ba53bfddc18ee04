-- A page's text up to one of its line pointers.
use Rattle.std.proofs.Common.{◌≡◌, ℕ, ◌+◌, ◌-◌, ◌≤◌, List, [], ◌++◌, refl, ap, ◌∙◌, sym, arith}
use Rattle.std.proofs.Common.{append-nil, append_assoc}
use Rattle.page_check.proofs.ValidPages.{line_pointer_count-zero, is_all_zero-verdict}
use Rattle.page_check.specs.declared.fields.LinePointer.{LinePointer}
use Rattle.page_check.specs.declared.verdict.Verdict.{Verdict}
use Rattle.page_check.specs.declared.verdict.Verdict.TheVariants.{Zero, Sane, Bad}
use Rattle.page_check.specs.Fields.{header_of}
use Rattle.page_check.specs.LinePointers.{line_pointer_count, line_pointer_of, line_pointers_of}
use Rattle.page_check.specs.Verdict.{IsValid, verdict_of}
use Rattle.heap_scan.specs.PageText.{text_up_to, first_line, lines_from, new_line}
use Rattle.heap_scan.specs.PageText.{page_line, page_text_of}
use Rattle.heap_scan.proofs.Items.{lines_from-all, lines_from-joined}
use Rattle.heap_scan.proofs.Texts.{first_line-new, first_line-used, page_text_of-new}
use Rattle.heap_scan.proofs.Texts.{page_text_of-used}

no_lines : (f : ℕ → LinePointer) (n : ℕ) → n ≡ 0 → lines_from f 0 n ≡ []
unfolding lines_from
no_lines f n none = ap (λ (many : ℕ). lines_from f 0 many) none

pub text_up_to-new : (relation block items : ℕ) (page : List ℕ) → verdict_of page ≡ Zero
    → items ≤ line_pointer_count page
    → text_up_to relation block page items ≡ new_line relation block
unfolding text_up_to
text_up_to-new relation block items page new few =
    let zero : items ≡ 0 = omega
    (arith, line_pointer_count-zero page (is_all_zero-verdict page new)) in
    let none = no_lines (line_pointer_of page) items zero in
    ap (λ (lines : List ℕ). first_line relation block page ++ lines) none
    ∙ append-nil (first_line relation block page) ∙ first_line-new relation block page new

pub text_up_to-used : (relation block items : ℕ) (page : List ℕ) → verdict_of page ≡ Sane
    → text_up_to relation block page items
    ≡ page_line relation block (header_of page) (line_pointer_count page)
    ++ lines_from (line_pointer_of page) 0 items
unfolding text_up_to
text_up_to-used relation block items page used =
    ap (λ (line : List ℕ). line ++ lines_from (line_pointer_of page) 0 items)
    (first_line-used relation block page used)

-- with the lines of more line pointers
pub text_up_to-more : (relation block some more : ℕ) (page : List ℕ)
    → text_up_to relation block page some ++ lines_from (line_pointer_of page) some more
    ≡ text_up_to relation block page (some + more)
unfolding text_up_to
text_up_to-more relation block some more page =
    let first = first_line relation block page in
    let front = lines_from (line_pointer_of page) 0 some in
    let from : some ≡ 0 + some = omega arith in
    append_assoc first front (lines_from (line_pointer_of page) some more)
    ∙ ap (λ (n : ℕ). first ++ (front ++ lines_from (line_pointer_of page) n more)) from
    ∙ ap (λ (lines : List ℕ). first ++ lines) (lines_from-joined (line_pointer_of page) 0 some more)

whole_by : (verdict : Verdict) (relation block : ℕ) (page : List ℕ) → verdict_of page ≡ verdict
    → IsValid page
    → text_up_to relation block page (line_pointer_count page) ≡ page_text_of relation block page
unfolding line_pointers_of
whole_by Zero relation block page is valid =
    text_up_to-new relation block (line_pointer_count page) page is (omega arith)
    ∙ sym (page_text_of-new relation block page is)
whole_by Sane relation block page is valid =
    let first = page_line relation block (header_of page) (line_pointer_count page) in
    let all = lines_from-all (line_pointer_of page) (line_pointer_count page) in
    let same : line_pointer_count page ≡ line_pointer_count page - 0 = omega arith in
    text_up_to-used relation block (line_pointer_count page) page is
    ∙ ap (λ (n : ℕ). first ++ lines_from (line_pointer_of page) 0 n) same
    ∙ ap (λ (lines : List ℕ). first ++ lines) all
    ∙ sym (page_text_of-used relation block page is)
whole_by Bad relation block page is valid = absurd (valid is)

-- with all of them it is the whole text
pub text_up_to-all : (relation block items : ℕ) (page : List ℕ) → IsValid page
    → items ≡ line_pointer_count page
    → text_up_to relation block page items ≡ page_text_of relation block page
text_up_to-all relation block items page valid all =
    ap (λ (n : ℕ). text_up_to relation block page n) all
    ∙ whole_by (verdict_of page) relation block page refl valid
