use Rattle.std.proofs.Common.{None}
use Rattle.pool_tests.proofs.index.each_backend_takes_the_frames_of_its_own_ring.Given as goal

abbrev pub ghosts-replace_by_two_rings : goal.ghosts-replace_by_two_rings
ghosts-replace_by_two_rings g a = record { told = None; handles = 32; relations = 0 }
