use Rattle.std.proofs.Common.{arith, ◌<◌}
use Rattle.block_source.proofs.StridedBlocks.{stepped_first}
use Rattle.block_source.proofs.strides.SteppedBlockSourceUnit.next.Goals as goal

pub returns : goal.returns
returns c =
    let some : 0 < c.self.inside.count = omega arith in
    record {
      first = rw (← c.self.view_is) (grind (
        arith,
        stepped_first c.self.inside.next c.self.inside.step c.self.inside.count some,
      ));
    }
