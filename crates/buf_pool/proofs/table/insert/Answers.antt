use Rattle.std.proofs.Common.{◌<◌, arith, length}
use Rattle.buf_pool.proofs.TableSearch.{no_empty_slot}
use Rattle.buf_pool.proofs.table.insert.Goals as goal

pub unreachable-requires : goal.unreachable-requires
unreachable-requires c =
    let slots = c.args.slots.now in
    let some : 0 < length slots = omega arith in
    omega (
      arith,
      no_empty_slot slots c.args.tag some (λ k b. rw (← c.loop-step.invariant.0)
          (c.loop-step.invariant.1 k (omega arith))),
    )
