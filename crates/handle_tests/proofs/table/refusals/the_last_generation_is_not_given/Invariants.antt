use Rattle.std.proofs.Common.{None}
use Rattle.handle_tests.proofs.table.refusals.the_last_generation_is_not_given.Given as goal

abbrev pub ghosts-at_the_end : goal.ghosts-at_the_end
ghosts-at_the_end g a = record { told = None; handles = 1; relations = 0 }
