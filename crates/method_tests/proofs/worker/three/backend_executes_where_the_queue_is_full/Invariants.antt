use Rattle.std.proofs.Common.{None}
use Rattle.method_tests.proofs.worker.three.backend_executes_where_the_queue_is_full.Given as goal

abbrev pub ghosts-three_reads : goal.ghosts-three_reads
ghosts-three_reads g a = record { told = None; handles = 4; relations = 1 }
