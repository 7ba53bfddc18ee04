use Rattle.std.proofs.Common.{None}
use Rattle.example_handle.proofs.main.Given as goal

abbrev pub ghosts-live : goal.ghosts-live
ghosts-live g a = record { told = None; handles = 1; relations = 0 }
