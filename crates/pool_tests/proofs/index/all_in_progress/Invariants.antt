use Rattle.std.proofs.Common.{None}
use Rattle.pool_tests.proofs.index.all_in_progress.Given as goal

abbrev pub ghosts-begin_too_many : goal.ghosts-begin_too_many
ghosts-begin_too_many g a = record { told = None; handles = 2; relations = 0 }
