use Rattle.aio_callback.proofs.FirstPagesRead.{aim_stays}
use Rattle.aio_callback.proofs.laws.lent_pages_leave_the_aim.Goals as goal

pub returns : goal.returns
returns c = aim_stays
