use Rattle.std.proofs.Common.{◌≡◌, None}
use Rattle.handoff.specs.HandoffViews.{IsSameClient}
use Rattle.handoff_tests.proofs.turns.request_both_often.Given as goal

abbrev pub invariant-loop-n : goal.invariant-loop-n
invariant-loop-n g l = record {
  first : IsSameClient l.fn.first l.first × (l.first.requested ≡ None);
  second : IsSameClient l.fn.second l.second × (l.second.requested ≡ None);
}
