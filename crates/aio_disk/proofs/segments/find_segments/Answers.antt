use Rattle.std.proofs.Common.{sym, ◌∙◌}
use Rattle.aio_disk.specs.Shelf.{file_contents, segment_name}
use Rattle.aio_disk.proofs.SegmentBySegment.{one_more}
use Rattle.aio_disk.proofs.segments.find_segments.Goals as goal

pub loop-number-preserved : goal.loop-number-preserved
loop-number-preserved c = record {
  found = one_more (λ n. file_contents c.args.files.now (segment_name c.args.name.now n)) _
      c.loop-number.found.items _ c.loop-number.number c.in-Some.segment
      c.loop-number-test.true (sym c.in_ok-segment.ensures ∙ c.in-Some.is)
      c.in_ok-push.ensures.items c.loop-number.invariant.found;
}
