use Rattle.std.proofs.Common.{None}
use Rattle.pool_tests.proofs.frames.a_pinned_page_stays.Given as goal

abbrev pub ghosts-pin_and_let_go : goal.ghosts-pin_and_let_go
ghosts-pin_and_let_go g a = record { told = None; handles = 2; relations = 1 }
