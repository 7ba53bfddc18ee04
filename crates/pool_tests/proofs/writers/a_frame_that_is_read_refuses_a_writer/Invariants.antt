use Rattle.std.proofs.Common.{None}
use Rattle.pool_tests.proofs.writers.a_frame_that_is_read_refuses_a_writer.Given as goal

abbrev pub ghosts-refuse_a_writer : goal.ghosts-refuse_a_writer
ghosts-refuse_a_writer g a = record { told = None; handles = 2; relations = 0 }
