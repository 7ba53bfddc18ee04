use Rattle.std.proofs.Common.{◌<◌}
use Rattle.aio_handle.specs.ContractViews.{IsActorOf}
use Rattle.aio_handle.specs.EndStates.{HasNoOwnerTokens}
use Rattle.handle_tests.proofs.table.races.lives.Given as goal

abbrev pub invariant-loop-n : goal.invariant-loop-n
invariant-loop-n g l = record {
  table : IsActorOf l.table l.actor;
  backend : l.actor.known.number < l.table.config.backends;
  no_owner_tokens : HasNoOwnerTokens l.actor.known;
}
