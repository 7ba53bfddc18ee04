use Rattle.std.proofs.Common.{None}
use Rattle.pool_tests.proofs.index.blocks_replace_each_other.Given as goal

abbrev pub ghosts-read_through : goal.ghosts-read_through
ghosts-read_through g a = record { told = None; handles = 2; relations = 0 }
