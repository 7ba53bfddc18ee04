use Rattle.std.proofs.Common.{◌<◌}
use Rattle.aio_handle.specs.ContractViews.{IsActorOf}
use Rattle.method_tests.proofs.worker.sleepers.submit_reads.Given as goal

abbrev pub invariant-loop-block : goal.invariant-loop-block
invariant-loop-block g l =
    IsActorOf l.table l.owner × (l.owner.known.number < l.table.config.backends)
