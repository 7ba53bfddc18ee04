use Rattle.std.proofs.Common.{◌≡◌, ◌++◌, length}
use Rattle.plan_tests.proofs.sources.all_of.Given as goal

-- what was given and what is left are all the blocks
abbrev pub invariant-loop-next : goal.invariant-loop-next
invariant-loop-next g l =
    l.given.items ++ g.S.BlockSource.left l.source ≡ g.S.BlockSource.left l.fn.source

abbrev pub decreases-loop-next : goal.decreases-loop-next
decreases-loop-next g l = length (g.S.BlockSource.left l.source)
