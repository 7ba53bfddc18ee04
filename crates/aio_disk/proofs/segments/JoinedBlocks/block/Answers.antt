use Rattle.std.proofs.Common.{ap, ◌∙◌, arith, ℕ, List}
use Rattle.page_check.specs.Told.{block_count, block_contents}
use Rattle.aio_disk.proofs.SegmentBySegment.{from_here, block_here, block_behind, none_below}
use Rattle.aio_disk.proofs.segments.JoinedBlocks.block.Goals as goal

pub returns-then-behind-whole_blocks-clause-page :
    goal.returns-then-behind-whole_blocks-clause-page
returns-then-behind-whole_blocks-clause-page c =
    let here = from_here _ _ _ c.loop-segment-test.true c.segment-item.is in
    c.block_bytes.ensures.page
    ∙ ap (λ (l : List ℕ). block_contents l c.loop-segment.behind) c.as_slice-bytes.ensures
    ∙ block_here c.args.self.now.size c.loop-segment.behind c.args.self.now.segments.now
    c.loop-segment.segment-index c.segment-item.result here
    (omega (
      arith,
      c.if-behind-whole_blocks.true,
      c.whole_blocks.ensures ∙ ap block_count c.as_slice-bytes.ensures,
    ))
    ∙ c.loop-segment.invariant.page

pub overflow_sub-behind : goal.overflow_sub-behind
overflow_sub-behind c =
    let here = from_here _ _ _ c.loop-segment-test.true c.segment-item.is in
    (block_behind c.args.self.now.size c.loop-segment.behind c.args.self.now.segments.now
    c.loop-segment.segment-index c.segment-item.result c.args.self.now.small here
    (omega (
      arith,
      c.if-behind-whole_blocks.false,
      c.whole_blocks.ensures ∙ ap block_count c.as_slice-bytes.ensures,
    ))
    c.loop-segment.invariant.below).least

pub loop-segment-preserved : goal.loop-segment-preserved
loop-segment-preserved c =
    let here = from_here _ _ _ c.loop-segment-test.true c.segment-item.is in
    let next = block_behind c.args.self.now.size c.loop-segment.behind
    c.args.self.now.segments.now c.loop-segment.segment-index c.segment-item.result
    c.args.self.now.small here
    (omega (
      arith,
      c.if-behind-whole_blocks.false,
      c.whole_blocks.ensures ∙ ap block_count c.as_slice-bytes.ensures,
    ))
    c.loop-segment.invariant.below in
    record { below = next.below; page = next.page ∙ c.loop-segment.invariant.page }

pub unreachable-requires : goal.unreachable-requires
unreachable-requires c =
    none_below c.args.self.now.size c.loop-segment.behind c.args.self.now.segments.now
    c.loop-segment.segment-index c.loop-segment-test.false c.loop-segment.invariant.below
