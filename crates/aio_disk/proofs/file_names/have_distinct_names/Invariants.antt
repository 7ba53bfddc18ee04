use Rattle.std.proofs.Common.{◌≡◌, map, drop}
use Rattle.aio_disk.specs.Shelf.{named_file, have_distinct_names}
use Rattle.aio_disk.proofs.file_names.have_distinct_names.Given as goal

abbrev pub invariant-loop-index : goal.invariant-loop-index
invariant-loop-index l =
    have_distinct_names (map named_file l.files)
    ≡ have_distinct_names (map named_file (drop l.index l.files))
