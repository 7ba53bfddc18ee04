use Rattle.std.proofs.Common.{None}
use Rattle.pool_tests.proofs.threads.two_threads_pin_the_pages_that_they_asked_for.Given as goal

abbrev pub ghosts-visit_by_two : goal.ghosts-visit_by_two
ghosts-visit_by_two g a = record { told = None; handles = 2; relations = 1 }
