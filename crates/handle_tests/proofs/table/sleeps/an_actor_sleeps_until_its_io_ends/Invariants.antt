use Rattle.std.proofs.Common.{None}
use Rattle.handle_tests.proofs.table.sleeps.an_actor_sleeps_until_its_io_ends.Given as goal

abbrev pub ghosts-sleep_once : goal.ghosts-sleep_once
ghosts-sleep_once g a = record { told = None; handles = 2; relations = 0 }
