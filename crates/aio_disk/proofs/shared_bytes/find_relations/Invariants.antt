use Rattle.std.proofs.Common.{◌≡◌, map, take}
use Rattle.std.specs.Prelude.{string_bytes}
use Rattle.aio_disk.specs.Shelf.{AllThere, file_segments}
use Rattle.aio_disk.proofs.shared_bytes.find_relations.Given as goal

abbrev pub invariant-loop-name : goal.invariant-loop-name
invariant-loop-name l = record {
  all_there : AllThere l.files (map string_bytes (take l.name-index l.names));
  found : l.found.items ≡ map (file_segments l.files)
      (map string_bytes (take l.name-index l.names));
}
