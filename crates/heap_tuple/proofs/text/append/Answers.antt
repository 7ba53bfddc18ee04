use Rattle.std.proofs.Common.{◌≡◌, ◌+◌, ◌-◌, ◌∙◌, ℕ, List, ◌++◌, length, drop, ap, arith, rules}
use Rattle.std.proofs.Common.{append_assoc, take_all, length-drop}
use Rattle.page_check.specs.LinePointers.{line_pointer_count}
use Rattle.page_check.proofs.ValidPages.{verdict_of-used}
use Rattle.heap_tuple.specs.TuplesText.{tuples_text_up_to, chains_line, texts_from}
use Rattle.heap_tuple.proofs.Texts.{tuples_text_up_to-more, tuples_text_up_to-all}
use Rattle.heap_tuple.proofs.text.append.Goals as goal

pub loop-done-preserved : goal.loop-done-preserved
loop-done-preserved c =
    let done = c.loop-done.done in
    let more = c.min-more.result in
    let page = c.args.page.now in
    let lines = texts_from page c.args.block done more in
    let before = tuples_text_up_to c.args.relation c.args.block page done in
    let many : done + more - done ≡ more = omega arith in
    let start = c.put_items-first.result in
    let buf = c.put_items-first.new.buf in
    let written = take_all (length buf - start) (drop start buf) (omega (arith, length-drop start buf))
    ∙ c.put_items-first.ensures.written
    ∙ ap (λ (n : ℕ). texts_from page c.args.block done n) many in
    record {
      some = omega (arith, c.min-more.ensures, c.loop-done-test.true);
      room = search rules;
      appended = c.in_ok-extend_from_slice-2.ensures.items
          ∙ ap (λ (text : List ℕ). c.loop-done.out.items ++ text) written
          ∙ ap (λ (text : List ℕ). text ++ lines) c.loop-done.invariant.appended
          ∙ append_assoc c.args.out.now.items before lines
          ∙ ap (λ (text : List ℕ). c.args.out.now.items ++ text)
          (tuples_text_up_to-more c.args.relation c.args.block done more page);
    }

pub returns-clause-ok : goal.returns-clause-ok
returns-clause-ok c =
    let page = c.args.page.now in
    let chains = chains_line c.args.chains.now.roots c.args.chains.now.longest in
    let before = tuples_text_up_to c.args.relation c.args.block page c.loop-done.done in
    let start = c.put_chains-last.result in
    let buf = c.put_chains-last.new.buf in
    let written = take_all (length buf - start) (drop start buf) (omega (arith, length-drop start buf))
    ∙ c.put_chains-last.ensures.written in
    let all : c.loop-done.done ≡ line_pointer_count page =
    omega (arith, c.loop-done.invariant.some, c.loop-done-test.false, c.count-count.ensures.count) in
    c.in_ok-extend_from_slice-3.ensures.items
    ∙ ap (λ (text : List ℕ). c.loop-done.out.items ++ text) written
    ∙ ap (λ (text : List ℕ). text ++ chains) c.loop-done.invariant.appended
    ∙ append_assoc c.args.out.now.items before chains
    ∙ ap (λ (text : List ℕ). c.args.out.now.items ++ text)
    (tuples_text_up_to-all c.args.relation c.args.block c.loop-done.done c.args.chains.now.roots
    c.args.chains.now.longest page (verdict_of-used page c.requires.valid c.requires.used) all
    c.requires.chains.0 c.requires.chains.1)
