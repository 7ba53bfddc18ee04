use Rattle.std.proofs.Common.{None}
use Rattle.method_tests.proofs.queue.capacity.queue_of_64_entries_and_48_seats.Given as goal

abbrev pub ghosts-seat_after_seat : goal.ghosts-seat_after_seat
ghosts-seat_after_seat g a = record { told = None; handles = 7; relations = 1 }
