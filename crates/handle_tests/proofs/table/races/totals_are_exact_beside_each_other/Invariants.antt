use Rattle.std.proofs.Common.{None}
use Rattle.handle_tests.proofs.table.races.totals_are_exact_beside_each_other.Given as goal

abbrev pub ghosts-beside : goal.ghosts-beside
ghosts-beside g a = record { told = None; handles = 8; relations = 0 }
