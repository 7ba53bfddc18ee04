use Rattle.std.proofs.Common.{◌≡◌, ◌++◌, take}
use Rattle.std.specs.Option.{option_to_list}
use Rattle.read_plan.specs.Runs.{AreRuns}
use Rattle.plan_tests.proofs.plans.runs_of.Given as goal

-- the runs so far and the pending one are the blocks so far
abbrev pub invariant-loop-block : goal.invariant-loop-block
invariant-loop-block l = record {
  combine : l.plan.combine ≡ l.fn.plan.combine;
  segment : l.plan.segment ≡ l.fn.plan.segment;
  runs :
      AreRuns l.plan.combine l.plan.segment
      (l.runs.items ++ option_to_list l.plan.pending)
      (take l.block-index l.blocks);
}
