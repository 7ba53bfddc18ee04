use Rattle.std.proofs.Common.{◌≡◌, ℕ, ◌<◌, Some}
use Rattle.buf_pool.specs.Frames.{tag_at}
use Rattle.buf_pool.specs.Probes.{probe}
use Rattle.buf_pool.proofs.table.find.Given as goal

abbrev pub invariant-loop-step : goal.invariant-loop-step
invariant-loop-step l = (k f : ℕ) → k < l.step → probe l.slots l.tag k ≡ Some f → tag_at l.frames f
    ≡ Some l.tag → ⊥
