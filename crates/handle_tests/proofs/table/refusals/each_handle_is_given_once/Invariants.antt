use Rattle.std.proofs.Common.{None}
use Rattle.handle_tests.proofs.table.refusals.each_handle_is_given_once.Given as goal

abbrev pub ghosts-both_handles : goal.ghosts-both_handles
ghosts-both_handles g a = record { told = None; handles = 2; relations = 0 }
