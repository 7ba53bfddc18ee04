use Rattle.std.proofs.Common.{arith}
use Rattle.std.proofs.lemmas.Grind.{common_steps}
use Rattle.aio_disk.proofs.Logs.{take-take_append}
use Rattle.aio_disk.proofs.read_log.ReadLog.add_all.Goals as goal

pub loop-entry-preserved : goal.loop-entry-preserved
loop-entry-preserved c =
    record { room = grind arith; reads = grind (arith, common_steps, take-take_append) }
