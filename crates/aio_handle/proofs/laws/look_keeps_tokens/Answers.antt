use Rattle.aio_handle.proofs.TokensStay.{unchanged-by-look}
use Rattle.aio_handle.proofs.laws.look_keeps_tokens.Goals as goal

pub returns : goal.returns
returns c = unchanged-by-look
