use Rattle.std.proofs.Common.{◌*◌, length, map, string_bytes}
use Rattle.aio_disk.specs.Shelf.{shelf_told}
use Rattle.scan_tests.proofs.helpers.rounds.scan_from.Given as goal

-- the shelf and the settings fix what all objects of the scan agree on
abbrev pub ghosts-scan_shelf : goal.ghosts-scan_shelf
ghosts-scan_shelf g a = record {
  told = shelf_told (g.S.Shelf.told a.shelf.now) (map string_bytes a.names.now);
  handles = a.settings.now.backends * a.settings.now.handles;
  relations = length a.names.now;
}
