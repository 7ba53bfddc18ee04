use Rattle.std.proofs.Common.{None}
use Rattle.pool_tests.proofs.checksums.the_index_has_an_entry_for_each_check.Given as goal

abbrev pub ghosts-index_both : goal.ghosts-index_both
ghosts-index_both g a = record { told = None; handles = 2; relations = 0 }
