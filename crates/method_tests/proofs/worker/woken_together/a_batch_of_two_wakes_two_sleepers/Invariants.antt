use Rattle.std.proofs.Common.{None}
use Rattle.method_tests.proofs.worker.woken_together.a_batch_of_two_wakes_two_sleepers.Given as goal

abbrev pub ghosts-wake_two : goal.ghosts-wake_two
ghosts-wake_two g a = record { told = None; handles = 2; relations = 1 }
