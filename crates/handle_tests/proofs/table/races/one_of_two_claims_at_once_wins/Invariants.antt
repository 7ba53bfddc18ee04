use Rattle.std.proofs.Common.{None}
use Rattle.handle_tests.proofs.table.races.one_of_two_claims_at_once_wins.Given as goal

abbrev pub ghosts-race : goal.ghosts-race
ghosts-race g a = record { told = None; handles = 8; relations = 0 }
