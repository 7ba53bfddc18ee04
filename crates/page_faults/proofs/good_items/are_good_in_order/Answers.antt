use Rattle.std.proofs.Common.{◌≡◌, arith, ap, ◌∙◌, sym, subst, ℕ}
use Rattle.page_check.specs.LinePointers.{line_pointer_count}
use Rattle.page_faults.specs.GoodItems.{AreGood}
use Rattle.page_faults.specs.ItemFaults.{items_faults}
use Rattle.page_faults.proofs.ItemsInOrder.{good-none, misplaced-good}
use Rattle.page_faults.proofs.good_items.are_good_in_order.Goals as goal

pub loop-index-init : goal.loop-index-init
loop-index-init c = good-none c.args.options.now c.args.block c.args.page.now

pub loop-index-preserved : goal.loop-index-preserved
loop-index-preserved c = c.in-Some.ensures c.loop-index.invariant

pub returns-clause-faults : goal.returns-clause-faults
returns-clause-faults c =
    let page = c.args.page.now in
    let all : line_pointer_count page ≡ c.loop-index.index =
    omega (arith, c.loop-index.auto.index-end, c.loop-index-test.false, c.count-index-end.ensures.count) in
    λ good. ap (items_faults c.args.options.now page) all ∙ c.loop-index.invariant.none

pub returns-clause-misplaced : goal.returns-clause-misplaced
returns-clause-misplaced c =
    let page = c.args.page.now in
    let all : line_pointer_count page ≡ c.loop-index.index =
    omega (arith, c.loop-index.auto.index-end, c.loop-index-test.false, c.count-index-end.ensures.count) in
    λ good. misplaced-good c.args.options.now c.args.block page c.loop-index.begin
    (subst (λ (n : ℕ). AreGood c.args.options.now c.args.block page n c.loop-index.begin) (sym all)
    c.loop-index.invariant)
