use Rattle.aio_callback.proofs.AimNamesRead.{reads-as}
use Rattle.aio_callback.proofs.laws.an_aim_names_the_read.Goals as goal

pub returns : goal.returns
returns c = reads-as
