use Rattle.std.proofs.Common.{Some, length}
use Rattle.method_tests.proofs.ring.rings.one_backend_executes_the_ios_of_another.Given as goal

abbrev pub ghosts-two_backends : goal.ghosts-two_backends
ghosts-two_backends g a = record {
  told = Some a.second.told;
  handles = 8;
  relations = length a.second.told.relations;
}
