use Rattle.record_tests.specs.PendingReads.{IsPendingRead}
use Rattle.record_tests.proofs.checksums.put_pages.Given as goal

abbrev pub invariant-loop-index : goal.invariant-loop-index
invariant-loop-index l = record { pending : IsPendingRead 4 l.io }
