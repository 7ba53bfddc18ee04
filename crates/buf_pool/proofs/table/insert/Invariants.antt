use Rattle.std.proofs.Common.{◌≡◌, ℕ, ◌<◌, None}
use Rattle.buf_pool.specs.Probes.{probe}
use Rattle.buf_pool.proofs.table.insert.Given as goal

abbrev pub invariant-loop-step : goal.invariant-loop-step
invariant-loop-step l = (l.slots ≡ l.initial.slots) × ((k : ℕ) → k < l.step → probe l.slots l.fn.tag
    k ≡ None → ⊥)
