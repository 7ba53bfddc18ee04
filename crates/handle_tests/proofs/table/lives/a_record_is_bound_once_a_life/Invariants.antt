use Rattle.std.proofs.Common.{None}
use Rattle.handle_tests.proofs.table.lives.a_record_is_bound_once_a_life.Given as goal

abbrev pub ghosts-bound_in_a_life : goal.ghosts-bound_in_a_life
ghosts-bound_in_a_life g a = record { told = None; handles = 1; relations = 0 }
