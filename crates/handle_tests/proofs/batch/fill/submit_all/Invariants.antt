use Rattle.aio_handle.specs.ContractViews.{IsActorOf}
use Rattle.aio_batch.specs.StagedTokens.{AreStagedTokens}
use Rattle.handle_tests.proofs.batch.fill.submit_all.Given as goal

abbrev pub invariant-loop-n : goal.invariant-loop-n
invariant-loop-n g l = record {
  table : IsActorOf l.table l.actor;
  tokens : AreStagedTokens l.actor.known l.batch;
}
