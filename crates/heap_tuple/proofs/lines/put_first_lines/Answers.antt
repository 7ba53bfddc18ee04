use Rattle.std.proofs.Common.{◌≡◌, ◌∙◌, ◌++◌, ◌-◌, List, ℕ, ap, arith}
use Rattle.page_check.specs.Fields.{header_of}
use Rattle.page_check.specs.LinePointers.{line_pointer_count}
use Rattle.heap_scan.specs.PageText.{page_line}
use Rattle.heap_tuple.specs.TuplesText.{tuples_text_up_to, texts_from}
use Rattle.heap_tuple.proofs.lines.put_first_lines.Goals as goal

pub returns-clause-written : goal.returns-clause-written
unfolding tuples_text_up_to
returns-clause-written c =
    let page = c.args.page.now in
    let first = page_line c.args.relation c.args.block (header_of page) (line_pointer_count page) in
    let all : c.args.items - 0 ≡ c.args.items = omega arith in
    c.put_page_line.ensures.written
    ∙ ap (λ (rest : List ℕ). first ++ rest) c.put_items-at.ensures.written
    ∙ ap (λ (n : ℕ). first ++ texts_from page c.args.block 0 n) all
