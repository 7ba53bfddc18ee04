use Rattle.std.proofs.Common.{None}
use Rattle.handle_tests.proofs.waitref.claimed.owner_sleeps_until_it_is_woken.Given as goal

abbrev pub ghosts-claimed_before : goal.ghosts-claimed_before
ghosts-claimed_before g a = record { told = None; handles = 8; relations = 0 }
