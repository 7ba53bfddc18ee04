use Rattle.std.proofs.Common.{None}
use Rattle.handle_tests.proofs.table.stale_references.references_below_the_start_and_far_above.Given as goal

abbrev pub ghosts-of_far_generations : goal.ghosts-of_far_generations
ghosts-of_far_generations g a = record { told = None; handles = 1; relations = 0 }
