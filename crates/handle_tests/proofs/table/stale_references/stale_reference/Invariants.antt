use Rattle.std.proofs.Common.{None}
use Rattle.handle_tests.proofs.table.stale_references.stale_reference.Given as goal

abbrev pub ghosts-of_three_generations : goal.ghosts-of_three_generations
ghosts-of_three_generations g a = record { told = None; handles = 1; relations = 0 }
