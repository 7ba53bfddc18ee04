use Rattle.std.proofs.Common.{None}
use Rattle.handle_tests.proofs.trace.a_runner_claims_one_of_three.Given as goal

abbrev pub ghosts-totals_of_three : goal.ghosts-totals_of_three
ghosts-totals_of_three g a = record { told = None; handles = 2; relations = 0 }
