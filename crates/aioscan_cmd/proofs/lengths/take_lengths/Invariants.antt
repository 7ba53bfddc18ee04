use Rattle.std.proofs.Common.{◌≡◌, ◌≤◌}
use Rattle.run_report.specs.Lengths.{HasAllLengths}
use Rattle.run_report.specs.Run.{limit_known}
use Rattle.aioscan_cmd.proofs.lengths.take_lengths.Given as goal

abbrev pub invariant-loop-relation : goal.invariant-loop-relation
invariant-loop-relation g l = record {
  taken : HasAllLengths (g.D.Disk.told l.fn.disk) (g.D.Disk.segment l.fn.disk) l.relation
      l.lengths.items;
  limit : l.limit ≡ limit_known (g.D.Disk.told l.fn.disk) (g.D.Disk.segment l.fn.disk);
  later : g.D.Disk.length_faults l.fn.disk ≤ g.D.Disk.length_faults l.disk;
  told : g.D.Disk.told l.disk ≡ g.D.Disk.told l.fn.disk;
  segment : g.D.Disk.segment l.disk ≡ g.D.Disk.segment l.fn.disk;
  relations : g.D.Disk.relations l.disk ≡ g.D.Disk.relations l.fn.disk;
  faults : g.D.Disk.faults l.disk ≡ g.D.Disk.faults l.fn.disk;
  reads : g.D.Disk.reads l.disk ≡ g.D.Disk.reads l.fn.disk;
}
