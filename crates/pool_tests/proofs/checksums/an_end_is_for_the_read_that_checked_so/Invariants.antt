use Rattle.std.proofs.Common.{None}
use Rattle.pool_tests.proofs.checksums.an_end_is_for_the_read_that_checked_so.Given as goal

abbrev pub ghosts-end_in_both_ways : goal.ghosts-end_in_both_ways
ghosts-end_in_both_ways g a = record { told = None; handles = 2; relations = 1 }
