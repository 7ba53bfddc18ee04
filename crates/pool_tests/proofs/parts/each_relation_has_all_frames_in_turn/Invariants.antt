use Rattle.std.proofs.Common.{None}
use Rattle.pool_tests.proofs.parts.each_relation_has_all_frames_in_turn.Given as goal

abbrev pub ghosts-fill_in_turn : goal.ghosts-fill_in_turn
ghosts-fill_in_turn g a = record { told = None; handles = 2; relations = 4 }
