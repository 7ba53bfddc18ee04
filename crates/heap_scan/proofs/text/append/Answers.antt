use Rattle.std.proofs.Common.{◌≡◌, ◌+◌, ◌-◌, ◌∙◌, ℕ, List, ◌++◌, ap, arith, append_assoc, rules, length, drop}
use Rattle.std.proofs.Common.{take_all, length-drop}
use Rattle.page_check.specs.LinePointers.{line_pointer_count, line_pointer_of}
use Rattle.heap_scan.specs.PageText.{text_up_to, lines_from}
use Rattle.heap_scan.proofs.PartialTexts.{text_up_to-more, text_up_to-all}
use Rattle.heap_scan.proofs.text.append.Goals as goal

pub loop-done-preserved : goal.loop-done-preserved
loop-done-preserved c =
    let done = c.loop-done.done in
    let more = c.min-more.result in
    let page = c.args.page.now in
    let lines = lines_from (line_pointer_of page) done more in
    let before = text_up_to c.args.relation c.args.block page done in
    let many : done + more - done ≡ more = omega arith in
    let start = c.put_items-first.result in
    let buf = c.put_items-first.new.buf in
    let written = take_all (length buf - start) (drop start buf) (omega (arith, length-drop start buf))
    ∙ c.put_items-first.ensures.written
    ∙ ap (λ (n : ℕ). lines_from (line_pointer_of page) done n) many in
    record {
      some = omega (arith, c.min-more.ensures, c.loop-done-test.true);
      room = search rules;
      appended = c.in_ok-extend_from_slice-2.ensures.items
          ∙ ap (λ (text : List ℕ). c.loop-done.out.items ++ text) written
          ∙ ap (λ (text : List ℕ). text ++ lines) c.loop-done.invariant.appended
          ∙ append_assoc c.args.out.now.items before lines
          ∙ ap (λ (text : List ℕ). c.args.out.now.items ++ text)
          (text_up_to-more c.args.relation c.args.block done more page);
    }

pub returns-clause-ok : goal.returns-clause-ok
returns-clause-ok c =
    let page = c.args.page.now in
    let all : c.loop-done.done ≡ line_pointer_count page =
    omega (arith, c.loop-done.invariant.some, c.loop-done-test.false, c.count-count.ensures.count) in
    c.loop-done.invariant.appended
    ∙ ap (λ (text : List ℕ). c.args.out.now.items ++ text)
    (text_up_to-all c.args.relation c.args.block c.loop-done.done page c.requires.valid all)
