use Rattle.stream_tests.proofs.late_workers.list_over.Given as goal

abbrev pub ghosts-list_twice : goal.ghosts-list_twice
ghosts-list_twice g a = record {
  told = g.S.Disk.Disk.told a.own;
  handles = 16;
  relations = g.S.Disk.Disk.relations a.own;
}
