use Rattle.std.proofs.Common.{◌≡◌}
use Rattle.handoff.proofs.handoff.Handoff.wait_for_reply.Given as goal

abbrev pub invariant-loop : goal.invariant-loop
invariant-loop g l = record { same : l.client ≡ l.fn.client }
