use Rattle.std.proofs.Common.{ℕ, ◌<◌, ◌≤◌}
use Rattle.aio_handle.specs.OwnHandles.{own_at, IsFreeHandle}
use Rattle.aio_handle.proofs.own_handles.find_free.Given as goal

abbrev pub invariant-loop-k : goal.invariant-loop-k
invariant-loop-k l = (k : ℕ) → l.from ≤ k → k < l.k → IsFreeHandle (own_at l.own k) → ⊥
