use Rattle.std.proofs.Common.{None}
use Rattle.method_tests.proofs.worker.stale_entries.stale_entries_are_passed_over.Given as goal

abbrev pub ghosts-stale_thrice : goal.ghosts-stale_thrice
ghosts-stale_thrice g a = record { told = None; handles = 1; relations = 1 }
