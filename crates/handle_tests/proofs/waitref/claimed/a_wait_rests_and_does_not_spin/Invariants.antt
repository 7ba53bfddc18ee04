use Rattle.std.proofs.Common.{None}
use Rattle.handle_tests.proofs.waitref.claimed.a_wait_rests_and_does_not_spin.Given as goal

abbrev pub ghosts-claimed_before : goal.ghosts-claimed_before
ghosts-claimed_before g a = record { told = None; handles = 8; relations = 0 }
