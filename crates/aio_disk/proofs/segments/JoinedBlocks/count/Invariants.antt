use Rattle.std.proofs.Common.{◌≡◌, ◌≤◌, ◌+◌, ◌-◌, ◌^◌, min, drop}
use Rattle.page_check.specs.Told.{block_count, segments_joined}
use Rattle.aio_disk.proofs.segments.JoinedBlocks.count.Given as goal

abbrev pub invariant-loop-segment : goal.invariant-loop-segment
invariant-loop-segment l = record {
  fits : l.count ≤ 2 ^ 32 - 1;
  counted : min (l.count
      + block_count (segments_joined l.self.size (drop l.segment-index l.self.segments.now)))
      (2 ^ 32 - 1)
      ≡ block_count (segments_joined l.self.size l.self.segments.now);
}
