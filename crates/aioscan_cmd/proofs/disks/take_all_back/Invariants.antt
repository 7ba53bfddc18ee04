use Rattle.std.proofs.Common.{◌≡◌, sum_by}
use Rattle.aio_disk.specs.Counts.{RisesIfPositive, count_plus}
use Rattle.aioscan_cmd.proofs.disks.take_all_back.Given as goal

abbrev pub invariant-loop-disk : goal.invariant-loop-disk
invariant-loop-disk g l = record {
  told : g.S.Shelf.told l.shelf ≡ g.S.Shelf.told l.fn.shelf;
  open_faults : (g.S.Shelf.counts l.shelf).open_faults
      ≡ (g.S.Shelf.counts l.fn.shelf).open_faults;
  length_faults : RisesIfPositive (sum_by g.S.Disk.Disk.length_faults l.yielded)
      (g.S.Shelf.counts l.fn.shelf).length_faults (g.S.Shelf.counts l.shelf).length_faults;
  faults : RisesIfPositive (sum_by g.S.Disk.Disk.faults l.yielded)
      (g.S.Shelf.counts l.fn.shelf).faults (g.S.Shelf.counts l.shelf).faults;
  reads : (g.S.Shelf.counts l.shelf).reads
      ≡ count_plus (sum_by g.S.Disk.Disk.reads l.yielded) (g.S.Shelf.counts l.fn.shelf).reads;
}
