use Rattle.std.proofs.Common.{Some, length}
use Rattle.method_tests.proofs.sync.steady_reads.Given as goal

abbrev pub ghosts-read_all : goal.ghosts-read_all
ghosts-read_all g a = record {
  told = Some a.disk.told;
  handles = 1;
  relations = length a.disk.told.relations;
}
