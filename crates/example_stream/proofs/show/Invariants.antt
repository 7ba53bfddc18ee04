use Rattle.std.proofs.Common.{Some, length}
use Rattle.example_stream.proofs.show.Given as goal

abbrev pub ghosts-read_ten : goal.ghosts-read_ten
ghosts-read_ten g a = record {
  told = Some a.disk.told;
  handles = 4;
  relations = length a.disk.told.relations;
}
