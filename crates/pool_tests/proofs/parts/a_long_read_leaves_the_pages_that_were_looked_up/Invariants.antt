use Rattle.std.proofs.Common.{None}
use Rattle.pool_tests.proofs.parts.a_long_read_leaves_the_pages_that_were_looked_up.Given as goal

abbrev pub ghosts-read_beside : goal.ghosts-read_beside
ghosts-read_beside g a = record { told = None; handles = 2; relations = 4 }
