use Rattle.aio_handle.proofs.TokensStay.{unchanged-by-execution}
use Rattle.aio_handle.proofs.laws.execution_keeps_tokens.Goals as goal

pub returns : goal.returns
returns c = unchanged-by-execution
