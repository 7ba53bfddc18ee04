use Rattle.std.proofs.Common.{◌∙◌}
use Rattle.std.proofs.lemmas.List.Sums.{sum_by_push}
use Rattle.aioscan_cmd.proofs.DiskCountsAdd.{rises_more, raised_more}
use Rattle.aioscan_cmd.proofs.disks.take_all_back.Goals as goal

pub loop-disk-preserved : goal.loop-disk-preserved
loop-disk-preserved g c =
    let i = c.loop-disk.invariant in
    let e = c.take_back.ensures in record {
      told = e.told ∙ i.told;
      open_faults = e.open_faults ∙ i.open_faults;
      length_faults = rises_more _ _ _ _ _ _
          (sum_by_push g.S.Disk.Disk.length_faults c.loop-disk.yielded c.in-Some.disk)
          i.length_faults e.length_faults;
      faults = rises_more _ _ _ _ _ _
          (sum_by_push g.S.Disk.Disk.faults c.loop-disk.yielded c.in-Some.disk) i.faults e.faults;
      reads = raised_more _ _ _ _ _ _
          (sum_by_push g.S.Disk.Disk.reads c.loop-disk.yielded c.in-Some.disk) i.reads e.reads;
    }
