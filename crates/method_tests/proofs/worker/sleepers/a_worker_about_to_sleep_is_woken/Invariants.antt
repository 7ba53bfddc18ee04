use Rattle.std.proofs.Common.{None}
use Rattle.method_tests.proofs.worker.sleepers.a_worker_about_to_sleep_is_woken.Given as goal

abbrev pub ghosts-push_to_one_about_to_sleep : goal.ghosts-push_to_one_about_to_sleep
ghosts-push_to_one_about_to_sleep g a = record { told = None; handles = 64; relations = 1 }
