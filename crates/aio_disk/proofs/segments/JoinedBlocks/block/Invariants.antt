use Rattle.std.proofs.Common.{◌≡◌, ◌<◌, drop}
use Rattle.page_check.specs.Told.{block_count, block_contents, segments_joined}
use Rattle.aio_disk.proofs.segments.JoinedBlocks.block.Given as goal

abbrev pub invariant-loop-segment : goal.invariant-loop-segment
invariant-loop-segment l = record {
  below : l.behind
      < block_count (segments_joined l.self.size (drop l.segment-index l.self.segments.now));
  page : block_contents (segments_joined l.self.size (drop l.segment-index l.self.segments.now))
      l.behind
      ≡ block_contents (segments_joined l.self.size l.self.segments.now) l.block;
}
