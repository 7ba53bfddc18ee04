use Rattle.aio_batch.proofs.StagedTokensKept.{staged_tokens-kept}
use Rattle.aio_batch.proofs.laws.batches_are_kept.Goals as goal

pub returns : goal.returns
returns g c held p q = staged_tokens-kept p q held
