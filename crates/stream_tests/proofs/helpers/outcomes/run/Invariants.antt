use Rattle.std.proofs.Common.{◌*◌, Some, length}
use Rattle.stream_tests.proofs.helpers.outcomes.run.Given as goal

abbrev pub ghosts-read_all : goal.ghosts-read_all
ghosts-read_all g a = record {
  told = Some a.disk.steady.told;
  handles = 2 * a.case.now.handles;
  relations = length a.disk.steady.told.relations;
}
