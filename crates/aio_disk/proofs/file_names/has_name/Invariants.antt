use Rattle.std.proofs.Common.{◌≡◌, map, drop}
use Rattle.aio_disk.specs.Shelf.{named_file, has_name}
use Rattle.aio_disk.proofs.file_names.has_name.Given as goal

abbrev pub invariant-loop-file : goal.invariant-loop-file
invariant-loop-file l =
    has_name (map named_file l.files) l.name
    ≡ has_name (map named_file (drop l.file-index l.files)) l.name
