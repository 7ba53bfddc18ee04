use Rattle.std.proofs.Common.{None}
use Rattle.method_tests.proofs.worker.sleepers.a_sleeping_worker_is_woken.Given as goal

abbrev pub ghosts-wake_again_and_again : goal.ghosts-wake_again_and_again
ghosts-wake_again_and_again g a = record { told = None; handles = 1; relations = 1 }
