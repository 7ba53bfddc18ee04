use Rattle.std.proofs.Common.{◌≡◌, ◌++◌, take, drop}
use Rattle.method_ring.specs.Numbered.{first_with_number, without_number}
use Rattle.method_ring.proofs.listed.take_out.Given as goal

abbrev pub invariant-loop-index : goal.invariant-loop-index
invariant-loop-index g l = record {
  same : l.items ≡ l.fn.items;
  first : first_with_number g.T.Numbered.number l.user l.fn.items.items
      ≡ first_with_number g.T.Numbered.number l.user (drop l.index l.fn.items.items);
  others : without_number g.T.Numbered.number l.user l.fn.items.items
      ≡ take l.index l.fn.items.items
      ++ without_number g.T.Numbered.number l.user (drop l.index l.fn.items.items);
}
