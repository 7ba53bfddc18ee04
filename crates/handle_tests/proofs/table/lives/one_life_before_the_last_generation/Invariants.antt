use Rattle.std.proofs.Common.{None}
use Rattle.handle_tests.proofs.table.lives.one_life_before_the_last_generation.Given as goal

abbrev pub ghosts-last_life : goal.ghosts-last_life
ghosts-last_life g a = record { told = None; handles = 1; relations = 0 }
