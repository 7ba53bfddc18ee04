use Rattle.std.proofs.Common.{None}
use Rattle.example_pool.proofs.main.Given as goal

abbrev pub ghosts-run : goal.ghosts-run
ghosts-run g a = record { told = None; handles = 1; relations = 1 }
