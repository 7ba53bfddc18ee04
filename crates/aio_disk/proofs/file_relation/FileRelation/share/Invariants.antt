use Rattle.std.proofs.Common.{◌≡◌, map, take}
use Rattle.std.specs.Arc.{arc_value}
use Rattle.aio_disk.proofs.file_relation.FileRelation.share.Given as goal

abbrev pub invariant-loop-segment : goal.invariant-loop-segment
invariant-loop-segment l =
    map arc_value l.segments.items ≡ map arc_value (take l.segment-index l.self.segments.items)
