use Rattle.std.proofs.Common.{None, length}
use Rattle.example_source.proofs.main.Given as goal

abbrev pub ghosts-count_twice : goal.ghosts-count_twice
ghosts-count_twice g a = record { told = None; handles = 64; relations = length a.disk.relations.items }
