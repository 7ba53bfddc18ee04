use Rattle.aio_batch.proofs.StagedTokensKept.{submission-keeps}
use Rattle.aio_batch.proofs.laws.submitting_keeps_tokens.Goals as goal

pub returns : goal.returns
returns g c = submission-keeps
