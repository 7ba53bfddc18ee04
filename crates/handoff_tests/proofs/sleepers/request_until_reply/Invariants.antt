use Rattle.std.proofs.Common.{◌≡◌, None}
use Rattle.handoff.specs.HandoffViews.{IsSameClient}
use Rattle.handoff_tests.proofs.sleepers.request_until_reply.Given as goal

abbrev pub invariant-loop : goal.invariant-loop
invariant-loop g l = record {
  same : IsSameClient l.fn.client l.client × (l.client.requested ≡ None);
}
