use Rattle.heap_tuple.proofs.LongestRoot.{root_inside, root_outside}
use Rattle.heap_tuple.proofs.chains.is_first.Goals as goal

pub returns-then-is_some : goal.returns-then-is_some
returns-then-is_some c =
    λ block are. root_inside _ block _ _ _ _ _ c.tuple.ensures c.is_some.ensures c.if-is_some.true
    c.from.ensures are

pub returns-else-is_some : goal.returns-else-is_some
returns-else-is_some c =
    λ block are. root_outside _ block _ _ _ _ c.tuple.ensures c.is_some.ensures c.if-is_some.false
    are
