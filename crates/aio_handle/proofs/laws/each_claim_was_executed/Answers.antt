use Rattle.aio_handle.proofs.IoMarksMatchClaims.{balance}
use Rattle.aio_handle.proofs.laws.each_claim_was_executed.Goals as goal

pub returns : goal.returns
returns c = balance
