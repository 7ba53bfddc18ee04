use Rattle.std.proofs.Common.{◌≡◌, length, map, string_bytes}
use Rattle.std.specs.List.{All}
use Rattle.aio_disk.specs.Shelf.{shelf_told}
use Rattle.scan_tests.proofs.helpers.opening.open_disks.Given as goal

abbrev pub invariant-loop : goal.invariant-loop
invariant-loop g l = record {
  told : g.S.Shelf.told l.shelf ≡ g.S.Shelf.told l.initial.shelf;
  segment : g.S.Shelf.segment l.shelf ≡ g.S.Shelf.segment l.initial.shelf;
  opened : length l.disks.items ≡ l.counter;
  tell : All (λ d. (g.S.Disk.Disk.told d
      ≡ shelf_told (g.S.Shelf.told l.initial.shelf) (map string_bytes l.names))
      × (g.S.Disk.Disk.relations d ≡ length l.names)) l.disks.items;
  segments : All (λ d. g.S.Disk.Disk.segment d ≡ g.S.Shelf.segment l.initial.shelf) l.disks.items;
}
