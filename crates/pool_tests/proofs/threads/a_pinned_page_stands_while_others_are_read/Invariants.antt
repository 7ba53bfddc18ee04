use Rattle.std.proofs.Common.{None}
use Rattle.pool_tests.proofs.threads.a_pinned_page_stands_while_others_are_read.Given as goal

abbrev pub ghosts-pin_while_others_are_read : goal.ghosts-pin_while_others_are_read
ghosts-pin_while_others_are_read g a = record { told = None; handles = 2; relations = 0 }
