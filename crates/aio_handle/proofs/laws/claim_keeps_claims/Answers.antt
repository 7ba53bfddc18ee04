use Rattle.aio_handle.proofs.TokensStay.{claim-unchanged-by-claim, claimed-is-other}
use Rattle.aio_handle.proofs.laws.claim_keeps_claims.Goals as goal

pub returns-clause-claims_stay : goal.returns-clause-claims_stay
returns-clause-claims_stay c = claim-unchanged-by-claim

pub returns-clause-other : goal.returns-clause-other
returns-clause-other c = claimed-is-other
