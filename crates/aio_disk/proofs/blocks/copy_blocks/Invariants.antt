use Rattle.aio_disk.specs.Disk.{HoldsBlocks}
use Rattle.aio_disk.proofs.blocks.copy_blocks.Given as goal

abbrev pub invariant-loop-index : goal.invariant-loop-index
invariant-loop-index g l = HoldsBlocks (g.B.Blocks.bytes l.blocks) l.first l.index l.pages
