use Rattle.std.proofs.Common.{None}
use Rattle.method_tests.proofs.queue.capacity.queue_of_64_entries.Given as goal

abbrev pub ghosts-one_seat : goal.ghosts-one_seat
ghosts-one_seat g a = record { told = None; handles = 7; relations = 1 }
