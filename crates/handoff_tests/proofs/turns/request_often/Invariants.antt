use Rattle.std.proofs.Common.{◌≡◌, None}
use Rattle.handoff.specs.HandoffViews.{IsSameClient}
use Rattle.handoff_tests.proofs.turns.request_often.Given as goal

abbrev pub invariant-loop-n : goal.invariant-loop-n
invariant-loop-n g l = record {
  same : IsSameClient l.fn.client l.client × (l.client.requested ≡ None);
}
