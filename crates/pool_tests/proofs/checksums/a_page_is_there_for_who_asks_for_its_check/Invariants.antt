use Rattle.std.proofs.Common.{None}
use Rattle.pool_tests.proofs.checksums.a_page_is_there_for_who_asks_for_its_check.Given as goal

abbrev pub ghosts-read_in_both_ways : goal.ghosts-read_in_both_ways
ghosts-read_in_both_ways g a = record { told = None; handles = 2; relations = 1 }
