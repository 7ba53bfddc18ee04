use Rattle.buf_pool.proofs.PartsInPlace.{AreSoFar}
use Rattle.buf_pool.proofs.pool.Pool.open.Given as goal

abbrev pub invariant-loop-part : goal.invariant-loop-part
invariant-loop-part g l = AreSoFar l.frames l.part l.first l.parts.items
