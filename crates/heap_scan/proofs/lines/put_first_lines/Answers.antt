use Rattle.std.proofs.Common.{◌≡◌, ◌≢◌, ◌∙◌, ◌++◌, ◌-◌, List, ℕ, ap, sym, arith}
use Rattle.page_check.specs.Fields.{header_of}
use Rattle.page_check.proofs.ValidPages.{verdict_of-new, verdict_of-used}
use Rattle.page_check.specs.LinePointers.{line_pointer_count, line_pointer_of}
use Rattle.heap_scan.specs.PageText.{lines_from, page_line}
use Rattle.heap_scan.proofs.PartialTexts.{text_up_to-new, text_up_to-used}
use Rattle.heap_scan.proofs.lines.put_first_lines.Goals as goal

pub returns-then-header-eq0-clause-written : goal.returns-then-header-eq0-clause-written
returns-then-header-eq0-clause-written c =
    let new : (header_of c.args.page.now).upper ≡ 0 = cc in
    c.put_new_line.ensures.written
    ∙ sym (text_up_to-new _ _ _ _ (verdict_of-new _ c.requires.valid new) c.requires.in_page)

pub returns-clause-written : goal.returns-clause-written
returns-clause-written c =
    let used : (header_of c.args.page.now).upper ≢ 0 = λ new. c.if-header-eq0.false (cc) in
    let first = page_line c.args.relation c.args.block (header_of c.args.page.now)
    (line_pointer_count c.args.page.now) in
    let all : c.args.items - 0 ≡ c.args.items = omega arith in
    c.put_page_line.ensures.written
    ∙ ap (λ (rest : List ℕ). first ++ rest) c.put_items-at.ensures.written
    ∙ ap (λ (n : ℕ). first ++ lines_from (line_pointer_of c.args.page.now) 0 n) all
    ∙ sym (text_up_to-used _ _ _ _ (verdict_of-used _ c.requires.valid used))
