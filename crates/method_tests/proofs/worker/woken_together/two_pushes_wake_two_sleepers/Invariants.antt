use Rattle.std.proofs.Common.{None}
use Rattle.method_tests.proofs.worker.woken_together.two_pushes_wake_two_sleepers.Given as goal

abbrev pub ghosts-wake_two : goal.ghosts-wake_two
ghosts-wake_two g a = record { told = None; handles = 2; relations = 1 }
