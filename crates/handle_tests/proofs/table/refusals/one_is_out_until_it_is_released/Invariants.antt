use Rattle.std.proofs.Common.{None}
use Rattle.handle_tests.proofs.table.refusals.one_is_out_until_it_is_released.Given as goal

abbrev pub ghosts-acquired_twice : goal.ghosts-acquired_twice
ghosts-acquired_twice g a = record { told = None; handles = 1; relations = 0 }
