use Rattle.aio_handle.proofs.TokensStay.{claim-unchanged-elsewhere, claim-unchanged-by-owner}
use Rattle.aio_handle.proofs.laws.events_keep_other_claims.Goals as goal

pub returns-clause-elsewhere : goal.returns-clause-elsewhere
returns-clause-elsewhere c = claim-unchanged-elsewhere

pub returns-clause-owners : goal.returns-clause-owners
returns-clause-owners c = claim-unchanged-by-owner
