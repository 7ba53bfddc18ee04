use Rattle.std.proofs.Common.{◌≡◌, map}
use Rattle.aio_disk.specs.Shelf.{named_file}
use Rattle.aio_disk.proofs.shared_bytes.share_files.Given as goal

abbrev pub invariant-loop-name : goal.invariant-loop-name
invariant-loop-name l = l.shared.items ≡ map named_file l.yielded
