use Rattle.std.proofs.Common.{◌≡◌, ◌≤◌, length, map, string_bytes, vec_len, vec_capacity}
use Rattle.std.specs.List.{All}
use Rattle.aio_disk.specs.Shelf.{shelf_told}
use Rattle.aioscan_cmd.specs.Disks.{IsUnreadDisk}
use Rattle.aioscan_cmd.proofs.disks.open_others.Given as goal

abbrev pub invariant-loop : goal.invariant-loop
invariant-loop g l = record {
  count : vec_len l.disks ≡ l.counter;
  room : vec_capacity l.disks ≡ vec_capacity l.fn.disks;
  unread : All (IsUnreadDisk g.S.Disk.Disk
      (shelf_told (g.S.Shelf.told l.fn.shelf) (map string_bytes l.names)) (length l.names)
      (g.S.Shelf.segment l.fn.shelf)) l.disks.items;
  later : (g.S.Shelf.counts l.fn.shelf).open_faults ≤ (g.S.Shelf.counts l.shelf).open_faults;
  told : g.S.Shelf.told l.shelf ≡ g.S.Shelf.told l.fn.shelf;
  as_sure : g.S.Shelf.surely_opens l.shelf ≡ g.S.Shelf.surely_opens l.fn.shelf;
  segment : g.S.Shelf.segment l.shelf ≡ g.S.Shelf.segment l.fn.shelf;
  length_faults : (g.S.Shelf.counts l.shelf).length_faults
      ≡ (g.S.Shelf.counts l.fn.shelf).length_faults;
  faults : (g.S.Shelf.counts l.shelf).faults ≡ (g.S.Shelf.counts l.fn.shelf).faults;
  reads : (g.S.Shelf.counts l.shelf).reads ≡ (g.S.Shelf.counts l.fn.shelf).reads;
}
