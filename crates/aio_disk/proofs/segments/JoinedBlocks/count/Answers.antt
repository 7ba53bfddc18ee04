use Rattle.std.proofs.Common.{ap, ◌∙◌, arith}
use Rattle.page_check.specs.Told.{block_count}
use Rattle.aio_disk.proofs.SegmentBySegment.{from_here, count_starts, count_on, count_ends}
use Rattle.aio_disk.proofs.SegmentBySegment.{count_all}
use Rattle.aio_disk.proofs.segments.JoinedBlocks.count.Goals as goal

pub loop-segment-init : goal.loop-segment-init
loop-segment-init c = record { fits = omega arith; counted = count_starts _ }

pub loop-segment-preserved : goal.loop-segment-preserved
loop-segment-preserved c = record {
  fits = omega (arith, c.saturating_add-count.ensures);
  counted =
      count_on c.args.self.now.size c.loop-segment.count c.whole_blocks-blocks.result
      c.saturating_add-count.result c.args.self.now.segments.now c.loop-segment.segment-index
      c.segment-item.result c.args.self.now.small
      (from_here _ _ _ c.loop-segment-test.true c.segment-item.is)
      (c.whole_blocks-blocks.ensures ∙ ap block_count c.as_slice.ensures)
      c.saturating_add-count.ensures c.if-blocks-self.false c.loop-segment.invariant.counted;
}

pub returns-then-blocks-self : goal.returns-then-blocks-self
returns-then-blocks-self c =
    count_ends c.args.self.now.size c.loop-segment.count c.whole_blocks-blocks.result
    c.saturating_add-count.result c.args.self.now.segments.now c.loop-segment.segment-index
    c.segment-item.result c.args.self.now.small
    (from_here _ _ _ c.loop-segment-test.true c.segment-item.is)
    (c.whole_blocks-blocks.ensures ∙ ap block_count c.as_slice.ensures)
    c.saturating_add-count.ensures c.if-blocks-self.true c.loop-segment.invariant.counted

pub returns-after-loop-segment : goal.returns-after-loop-segment
returns-after-loop-segment c =
    count_all c.args.self.now.size c.loop-segment.count c.args.self.now.segments.now
    c.loop-segment.segment-index c.loop-segment-test.false c.loop-segment.invariant.fits
    c.loop-segment.invariant.counted
