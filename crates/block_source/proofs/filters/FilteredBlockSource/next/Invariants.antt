use Rattle.std.proofs.Common.{◌≡◌, filter, length}
use Rattle.block_source.proofs.filters.FilteredBlockSource.next.Given as goal

-- the blocks that were passed over are none that the test accepts
abbrev pub invariant-loop-next : goal.invariant-loop-next
invariant-loop-next g l =
    filter (λ b. g.T.BlockTest.accepts l.self.keep b.0) (g.S.BlockSource.left l.self.inner)
    ≡ filter (λ b. g.T.BlockTest.accepts l.fn.self.keep b.0) (g.S.BlockSource.left l.fn.self.inner)

abbrev pub decreases-loop-next : goal.decreases-loop-next
decreases-loop-next g l = length (g.S.BlockSource.left l.self.inner)
