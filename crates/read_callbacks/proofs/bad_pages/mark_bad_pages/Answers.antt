use Rattle.std.proofs.Common.{ℕ, List, take, slice_set, subst, sym, ap, ◌∙◌}
use Rattle.std.proofs.Common.{arith, ◌+◌}
use Rattle.std.proofs.lemmas.List.{length-take}
use Rattle.std.proofs.lemmas.List.Sums.{count_by-le-length}
use Rattle.page_check.specs.declared.rules.PageMark.{PageMark}
use Rattle.read_callbacks.specs.Chain.{is_bad, is_bad_block, with_blocks, page_if_bad}
use Rattle.read_callbacks.proofs.BlocksOfPages.{length-with_blocks}
use Rattle.read_callbacks.proofs.BadPagesMarked.{IsDone, done_none, done_bad, done_good, done_all}
use Rattle.read_callbacks.proofs.bad_pages.mark_bad_pages.Goals as goal
use Rattle.read_callbacks.proofs.bad_pages.mark_bad_pages.Goals.{then-page_if_bad, else-page_if_bad}

pub loop-index-init : goal.loop-index-init
loop-index-init c =
    done_none c.args.mark c.args.checksums c.args.first c.args.pages.now c.args.marks.now

pub overflow_add-count : goal.overflow_add-count
overflow_add-count c =
    let h = c.loop-index.invariant in
    let front = take c.loop-index.index c.args.pages.now in
    let few = count_by-le-length (is_bad_block c.args.checksums) (with_blocks c.args.first front) in
    let many = length-with_blocks c.args.first front in
    let cut = length-take c.loop-index.index c.args.pages.now in
    let same = h.counted in
    omega arith

pub loop-index-preserved : goal.loop-index-preserved
loop-index-preserved c =
    let pages = c.args.pages.now in
    let marks = c.args.marks.now in
    let n = c.loop-index.index in
    let page = c.index-pages-index.result in
    let written = c.page_if_bad.new.page in
    let now = slice_set c.loop-index.pages n written in
    let h = c.loop-index.invariant in
    let mark = c.args.mark in
    let sums = c.args.checksums in
    let block = c.args.first + n in
    let held = c.page_if_bad.ensures.page
    ∙ ap (λ (x : List ℕ). page_if_bad mark sums (block, x)) (sym c.index-pages-index.is) in
    let bad = ap (is_bad sums block) c.index-pages-index.is ∙ sym c.page_if_bad.ensures.bad in
    elim c.if-page_if_bad.branch [
      | then-page_if_bad w ↦
          subst (λ (k : ℕ). IsDone mark sums c.args.first pages marks (n + 1) now c.if-page_if_bad.marks k)
          (sym w.count-is)
          (subst (λ (ms : List PageMark). IsDone mark sums c.args.first pages marks (n + 1) now ms (c.loop-index.count + 1))
          (sym w.marks-is)
          (done_bad mark sums c.args.first pages marks n c.loop-index.pages c.loop-index.marks c.loop-index.count
          page written (omega arith) c.requires.marks c.index-pages-index.is held
          (bad ∙ w.if-page_if_bad.true) h))
      | else-page_if_bad w ↦
          subst (λ (k : ℕ). IsDone mark sums c.args.first pages marks (n + 1) now c.if-page_if_bad.marks k)
          (sym w.count-is)
          (subst (λ (ms : List PageMark). IsDone mark sums c.args.first pages marks (n + 1) now ms c.loop-index.count)
          (sym w.marks-is)
          (done_good mark sums c.args.first pages marks n c.loop-index.pages c.loop-index.marks c.loop-index.count
          page written (omega arith) c.requires.marks c.index-pages-index.is held
          (bad ∙ w.if-page_if_bad.false) h))
    ]

pub returns-clause-count : goal.returns-clause-count
returns-clause-count c =
    (done_all c.args.mark c.args.checksums c.args.first c.args.pages.now c.args.marks.now
    c.loop-index.index c.loop-index.pages c.loop-index.marks c.loop-index.count (omega arith)
    c.requires.marks c.loop-index.invariant).counted

pub returns-clause-pages : goal.returns-clause-pages
returns-clause-pages c =
    (done_all c.args.mark c.args.checksums c.args.first c.args.pages.now c.args.marks.now
    c.loop-index.index c.loop-index.pages c.loop-index.marks c.loop-index.count (omega arith)
    c.requires.marks c.loop-index.invariant).held

pub returns-clause-marks : goal.returns-clause-marks
returns-clause-marks c =
    (done_all c.args.mark c.args.checksums c.args.first c.args.pages.now c.args.marks.now
    c.loop-index.index c.loop-index.pages c.loop-index.marks c.loop-index.count (omega arith)
    c.requires.marks c.loop-index.invariant).marked
