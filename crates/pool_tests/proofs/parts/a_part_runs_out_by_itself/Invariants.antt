use Rattle.std.proofs.Common.{None}
use Rattle.pool_tests.proofs.parts.a_part_runs_out_by_itself.Given as goal

abbrev pub ghosts-fill_one_part : goal.ghosts-fill_one_part
ghosts-fill_one_part g a = record { told = None; handles = 2; relations = 1 }
