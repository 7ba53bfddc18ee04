use Rattle.buf_pool.specs.IndexInvariant.{IsClock}
use Rattle.buf_pool.proofs.strategy.Clock.sweep.Given as goal

abbrev pub invariant-loop : goal.invariant-loop
invariant-loop l = IsClock l.self.used.items l.self.hand l.frames
