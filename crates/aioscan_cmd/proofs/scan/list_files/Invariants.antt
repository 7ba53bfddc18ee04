use Rattle.std.proofs.Common.{◌*◌, length}
use Rattle.aio_disk.specs.Shelf.{shelf_told}
use Rattle.request_list.specs.RemainingRequests.{resolved_settings}
use Rattle.aioscan_cmd.proofs.scan.list_files.Given as goal

-- the shelf and the settings fix what all objects of the run agree on
abbrev pub ghosts-open_and_list : goal.ghosts-open_and_list
ghosts-open_and_list g a = record {
  told = shelf_told (g.S.Shelf.told a.shelf.now) a.asked.relations.now;
  handles = (resolved_settings a.asked).backends * (resolved_settings a.asked).handles;
  relations = length a.asked.relations.now;
}
