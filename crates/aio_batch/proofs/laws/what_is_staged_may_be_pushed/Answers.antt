use Rattle.aio_batch.proofs.StagedTokensKept.{staged_tokens-staging, staged_tokens-beside}
use Rattle.aio_batch.proofs.laws.what_is_staged_may_be_pushed.Goals as goal

pub returns-clause-pushed : goal.returns-clause-pushed
returns-clause-pushed g c = staged_tokens-staging

pub returns-clause-others : goal.returns-clause-others
returns-clause-others g c = staged_tokens-beside
