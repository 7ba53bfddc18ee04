use Rattle.std.proofs.Common.{◌<◌, length}
use Rattle.aio_disk.proofs.file_relation.FileRelation.open.Given as goal

abbrev pub invariant-loop-number : goal.invariant-loop-number
invariant-loop-number g l = 0 < length l.segments.items
