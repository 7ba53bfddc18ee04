use Rattle.aio_callback.proofs.FirstPagesRead.{answered_by}
use Rattle.aio_callback.proofs.laws.answered_by_its_read.Goals as goal

pub returns : goal.returns
returns c = answered_by
