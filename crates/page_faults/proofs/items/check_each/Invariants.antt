use Rattle.std.proofs.Common.{◌≡◌, ◌++◌}
use Rattle.page_faults.specs.Places.{AreOwners, placed_items}
use Rattle.page_faults.specs.ItemFaults.{items_faults}
use Rattle.page_faults.specs.Misplaced.{AreWitnesses}
use Rattle.page_faults.proofs.items.check_each.Given as goal

abbrev pub invariant-loop-index : goal.invariant-loop-index
invariant-loop-index l = record {
  found : l.found.items ≡ l.fn.found.items ++ items_faults l.options l.page l.index;
  owners : AreOwners l.page (placed_items l.page l.index) l.owners;
  witnesses : AreWitnesses l.page (placed_items l.page l.index) l.witnesses;
}
