use Rattle.page_faults.specs.GoodItems.{AreGood}
use Rattle.page_faults.proofs.good_items.are_good_in_order.Given as goal

abbrev pub invariant-loop-index : goal.invariant-loop-index
invariant-loop-index l = AreGood l.options l.block l.page l.index l.begin
