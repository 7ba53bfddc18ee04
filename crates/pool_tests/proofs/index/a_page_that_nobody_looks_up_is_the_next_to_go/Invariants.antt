use Rattle.std.proofs.Common.{None}
use Rattle.pool_tests.proofs.index.a_page_that_nobody_looks_up_is_the_next_to_go.Given as goal

abbrev pub ghosts-replace_by_ring : goal.ghosts-replace_by_ring
ghosts-replace_by_ring g a = record { told = None; handles = 2; relations = 0 }
