use Rattle.std.proofs.Common.{None}
use Rattle.handle_tests.proofs.waitref.stale_references.reference_three_generations_old_returns_at_once.Given as goal

abbrev pub ghosts-wait_for_the_first : goal.ghosts-wait_for_the_first
ghosts-wait_for_the_first g a = record { told = None; handles = 1; relations = 0 }
