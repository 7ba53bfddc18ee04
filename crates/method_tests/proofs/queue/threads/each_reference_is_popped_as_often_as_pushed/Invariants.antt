use Rattle.std.proofs.Common.{None}
use Rattle.method_tests.proofs.queue.threads.each_reference_is_popped_as_often_as_pushed.Given as goal

abbrev pub ghosts-four_threads : goal.ghosts-four_threads
ghosts-four_threads g a = record { told = None; handles = 7; relations = 1 }
