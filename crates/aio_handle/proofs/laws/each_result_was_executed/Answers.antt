use Rattle.aio_handle.proofs.IoMarksMatchClaims.{executed-in}
use Rattle.aio_handle.proofs.laws.each_result_was_executed.Goals as goal

pub returns : goal.returns
returns c = executed-in
