use Rattle.std.proofs.Common.{arith}
use Rattle.std.proofs.lemmas.Grind.{common_steps}
use Rattle.std.proofs.lemmas.List.FromFn.{map-range_with_len_more}
use Rattle.page_check.specs.Told.{block_contents}
use Rattle.aio_disk.proofs.blocks.copy_blocks.Goals as goal

pub loop-index-preserved : goal.loop-index-preserved
loop-index-preserved g c =
    grind (
      arith,
      common_steps,
      map-range_with_len_more (block_contents (g.B.Blocks.bytes c.args.blocks.now)) c.args.first
          c.loop-index.index,
    )
