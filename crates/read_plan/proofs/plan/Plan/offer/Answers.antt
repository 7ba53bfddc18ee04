use Rattle.std.proofs.Common.{rules}
use Rattle.read_plan.proofs.CombinedRuns.{block_extends, block_flushes, longer_within}
use Rattle.read_plan.proofs.plan.Plan.offer.Goals as goal

pub invariant_of-self-then-not-begins_segment : goal.invariant_of-self-then-not-begins_segment
invariant_of-self-then-not-begins_segment c = search (rules, longer_within)

pub returns-then-not-begins_segment-clause-within :
    goal.returns-then-not-begins_segment-clause-within
returns-then-not-begins_segment-clause-within c = search (rules, longer_within)

pub returns-then-not-begins_segment-clause-runs : goal.returns-then-not-begins_segment-clause-runs
returns-then-not-begins_segment-clause-runs c before offered are =
    let held = rw (← c.self.view_is, c.in-Some.is) at are in
    block_extends _ _ _ _ _ _ (search rules) (search rules) (search rules) (search rules) held

pub returns-else-run-self-clause-runs : goal.returns-else-run-self-clause-runs
returns-else-run-self-clause-runs c before offered are =
    let held = rw (← c.self.view_is, c.in-Some.is) at are in
    rw c.one-else-run-self.ensures (block_flushes _ _ _ _ _ _ (search rules) (search rules) held)
