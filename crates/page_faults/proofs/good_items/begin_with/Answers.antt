use Rattle.std.proofs.Common.{◌≡◌, sym, ap, ◌∙◌, false}
use Rattle.heap_tuple.specs.Tuples.{is_normal}
use Rattle.page_faults.specs.GoodItems.{is_wrong_other}
use Rattle.page_faults.proofs.ItemsInOrder.{good-unless}
use Rattle.page_faults.proofs.good_items.begin_with.Goals as goal

pub returns : goal.returns
returns c =
    let pointer = c.line_pointer-pointer.result in
    let other : is_normal pointer.kind ≡ false =
    sym c.is_normal.ensures ∙ c.if-is_normal.false in
    λ are. good-unless c.args.options.now c.args.block c.args.page.now c.args.index c.args.begin
    c.is_wrong_other.result pointer c.begin_unless.result c.begin_unless.ensures
    c.line_pointer-pointer.ensures other
    (c.is_wrong_other.ensures ∙ ap (is_wrong_other c.args.page.now) (sym c.line_pointer-pointer.ensures)) are
