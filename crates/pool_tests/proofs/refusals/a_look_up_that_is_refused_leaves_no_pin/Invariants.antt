use Rattle.std.proofs.Common.{None}
use Rattle.pool_tests.proofs.refusals.a_look_up_that_is_refused_leaves_no_pin.Given as goal

abbrev pub ghosts-begin_behind_two : goal.ghosts-begin_behind_two
ghosts-begin_behind_two g a = record { told = None; handles = 2; relations = 1 }
