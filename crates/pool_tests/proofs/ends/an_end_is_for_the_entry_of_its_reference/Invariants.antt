use Rattle.std.proofs.Common.{None}
use Rattle.pool_tests.proofs.ends.an_end_is_for_the_entry_of_its_reference.Given as goal

abbrev pub ghosts-end_one_by_one : goal.ghosts-end_one_by_one
ghosts-end_one_by_one g a = record { told = None; handles = 2; relations = 1 }
