use Rattle.std.proofs.Common.{None}
use Rattle.handle_tests.proofs.table.together.one_of_two_claims_wins.Given as goal

abbrev pub ghosts-claims_and_checks : goal.ghosts-claims_and_checks
ghosts-claims_and_checks g a = record { told = None; handles = 1; relations = 0 }
