use Rattle.std.proofs.Common.{None}
use Rattle.method_tests.proofs.worker.batches.what_does_not_fit_is_executed_last.Given as goal

abbrev pub ghosts-three_as_one : goal.ghosts-three_as_one
ghosts-three_as_one g a = record { told = None; handles = 4; relations = 1 }
