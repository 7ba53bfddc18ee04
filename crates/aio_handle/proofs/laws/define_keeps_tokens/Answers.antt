use Rattle.aio_handle.proofs.TokensStay.{unchanged-by-define}
use Rattle.aio_handle.proofs.laws.define_keeps_tokens.Goals as goal

pub returns : goal.returns
returns c = unchanged-by-define
