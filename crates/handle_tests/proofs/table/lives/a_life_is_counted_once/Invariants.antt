use Rattle.std.proofs.Common.{None}
use Rattle.handle_tests.proofs.table.lives.a_life_is_counted_once.Given as goal

abbrev pub ghosts-one_life : goal.ghosts-one_life
ghosts-one_life g a = record { told = None; handles = 1; relations = 0 }
