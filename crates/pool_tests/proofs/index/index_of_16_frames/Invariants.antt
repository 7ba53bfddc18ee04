use Rattle.std.proofs.Common.{None}
use Rattle.pool_tests.proofs.index.index_of_16_frames.Given as goal

abbrev pub ghosts-first_page : goal.ghosts-first_page
ghosts-first_page g a = record { told = None; handles = 2; relations = 0 }
