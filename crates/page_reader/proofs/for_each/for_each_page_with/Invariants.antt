use Rattle.page_reader.proofs.for_each.for_each_page_with.Given as goal

abbrev pub ghosts-read_in : goal.ghosts-read_in
ghosts-read_in g a = record {
  told = g.D.Disk.told a.disk;
  handles = 64;
  relations = g.D.Disk.relations a.disk;
}
