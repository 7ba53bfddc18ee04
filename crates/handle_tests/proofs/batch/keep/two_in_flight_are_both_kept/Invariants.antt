use Rattle.std.proofs.Common.{None}
use Rattle.handle_tests.proofs.batch.keep.two_in_flight_are_both_kept.Given as goal

abbrev pub ghosts-both_in_flight : goal.ghosts-both_in_flight
ghosts-both_in_flight g a = record { told = None; handles = 2; relations = 0 }
