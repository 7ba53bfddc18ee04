use Rattle.std.proofs.Common.{None}
use Rattle.pool_tests.proofs.frames.as_many_blocks_are_begun_as_there_are_frames.Given as goal

abbrev pub ghosts-fill_pool : goal.ghosts-fill_pool
ghosts-fill_pool g a = record { told = None; handles = 2; relations = 1 }
