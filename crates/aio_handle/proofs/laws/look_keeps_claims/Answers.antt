use Rattle.aio_handle.proofs.TokensStay.{claim-unchanged-by-look}
use Rattle.aio_handle.proofs.laws.look_keeps_claims.Goals as goal

pub returns : goal.returns
returns c = claim-unchanged-by-look
