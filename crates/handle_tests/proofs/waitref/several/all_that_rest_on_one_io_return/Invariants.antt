use Rattle.std.proofs.Common.{None}
use Rattle.handle_tests.proofs.waitref.several.all_that_rest_on_one_io_return.Given as goal

abbrev pub ghosts-three_wait : goal.ghosts-three_wait
ghosts-three_wait g a = record { told = None; handles = 8; relations = 0 }
