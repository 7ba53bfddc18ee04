use Rattle.std.proofs.Common.{Some, length}
use Rattle.record_tests.proofs.disk.read_of_disk.Given as goal

abbrev pub ghosts-read_in : goal.ghosts-read_in
ghosts-read_in g a = record {
  told = Some a.disk.now.told;
  handles = 0;
  relations = length a.disk.now.told.relations;
}
