use Rattle.std.proofs.Common.{None}
use Rattle.pool_tests.proofs.index.a_page_in_use_is_not_the_next_to_go.Given as goal

abbrev pub ghosts-replace_three : goal.ghosts-replace_three
ghosts-replace_three g a = record { told = None; handles = 2; relations = 0 }
