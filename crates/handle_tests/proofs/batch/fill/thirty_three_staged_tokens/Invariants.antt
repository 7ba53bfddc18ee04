use Rattle.std.proofs.Common.{None}
use Rattle.handle_tests.proofs.batch.fill.thirty_three_staged_tokens.Given as goal

abbrev pub ghosts-batched : goal.ghosts-batched
ghosts-batched g a = record { told = None; handles = 64; relations = 0 }
