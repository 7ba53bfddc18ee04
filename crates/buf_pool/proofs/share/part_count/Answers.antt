use Rattle.std.proofs.Common.{◌≡◌, ◌*◌, ◌%◌, ◌^◌, arith}
use Rattle.buf_pool.specs.Parts.{part_count}
use Rattle.buf_pool.proofs.PartFrames.{counted_parts, parts_some, parts_fit}
use Rattle.buf_pool.proofs.share.part_count.Goals as goal

pub returns-clause-count : goal.returns-clause-count
returns-clause-count c =
    counted_parts c.args.frames c.ilog2.result (rw (← c.min.ensures) c.ilog2.ensures.power_le)
    (rw (← c.min.ensures) c.ilog2.ensures.next_power_gt)

pub returns-clause-range : goal.returns-clause-range
returns-clause-range c =
    let same : 1 * 2 ^ c.ilog2.result % 2 ^ 32 ≡ part_count c.args.frames =
    returns-clause-count c in
    omega (arith, same, parts_some c.args.frames c.requires, parts_fit c.args.frames c.requires)
