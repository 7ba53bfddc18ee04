use Rattle.std.proofs.Common.{sym, ◌∙◌}
use Rattle.block_source.proofs.FilteredBlocks.{first_accepted, first_refused}
use Rattle.block_source.proofs.filters.FilteredBlockSource.next.Goals as goal

pub returns-then-is_accepted : goal.returns-then-is_accepted
returns-then-is_accepted g c =
    let here = first_accepted _ _ _ _ c.in-Some.ensures.first c.if-is_accepted.ensures in
    record { first = sym c.loop-next.invariant ∙ here }

pub loop-next-preserved : goal.loop-next-preserved
loop-next-preserved g c =
    let here = first_refused _ _ _ _ c.in-Some.ensures.first c.if-is_accepted.ensures in
    sym here ∙ c.loop-next.invariant
