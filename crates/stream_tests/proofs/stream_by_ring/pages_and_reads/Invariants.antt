use Rattle.std.proofs.Common.{Some, length}
use Rattle.stream_tests.proofs.stream_by_ring.pages_and_reads.Given as goal

abbrev pub ghosts-pages_by_ring : goal.ghosts-pages_by_ring
ghosts-pages_by_ring g a = record {
  told = Some a.disk.steady.told;
  handles = 16;
  relations = length a.disk.steady.told.relations;
}
