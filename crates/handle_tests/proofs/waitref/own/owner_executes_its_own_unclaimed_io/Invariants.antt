use Rattle.std.proofs.Common.{None}
use Rattle.handle_tests.proofs.waitref.own.owner_executes_its_own_unclaimed_io.Given as goal

abbrev pub ghosts-wait_for_unclaimed : goal.ghosts-wait_for_unclaimed
ghosts-wait_for_unclaimed g a = record { told = None; handles = 1; relations = 0 }
