use Rattle.std.proofs.Common.{◌<◌, count_by, arith}
use Rattle.buf_pool.specs.Frames.{is_free}
use Rattle.buf_pool.proofs.VictimFrames.{taken_by_free}
use Rattle.buf_pool.proofs.index.PoolIndex.choose_frame.Goals as goal

pub returns-else-self-eq0-clause-found : goal.returns-else-self-eq0-clause-found
returns-else-self-eq0-clause-found g c =
    let some : 0 < count_by is_free c.self.inside.frames.items = omega
    (arith, c.self.invariant.0.vacant, c.if-self-eq0.false) in
    let shared = c.deref-else-self-eq0.ensures.value in
    rw (← c.self.view_is, ← shared) (taken_by_free _ _ (rw shared some) c.find_round.ensures)
