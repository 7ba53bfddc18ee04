use Rattle.std.proofs.Common.{◌≡◌, ◌-◌, ◌++◌, map}
use Rattle.std.specs.List.{range_with_len}
use Rattle.aio_disk.specs.Shelf.{file_contents, segment_name, file_segments, up_to_gap}
use Rattle.aio_disk.proofs.segments.find_segments.Given as goal

abbrev pub invariant-loop-number : goal.invariant-loop-number
invariant-loop-number l = record {
  found : file_segments l.files l.name
      ≡ l.found.items ++ up_to_gap (map (λ n. file_contents l.files (segment_name l.name n))
      (range_with_len l.number (17 - l.number)));
}
