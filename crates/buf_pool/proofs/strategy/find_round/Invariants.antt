use Rattle.std.proofs.Common.{◌≡◌, ℕ, ◌+◌, ◌%◌, ◌<◌, length, false}
use Rattle.buf_pool.specs.Frames.{descriptor_at}
use Rattle.buf_pool.specs.FrameSearch.{is_of_kind}
use Rattle.buf_pool.proofs.strategy.find_round.Given as goal

abbrev pub invariant-loop-step : goal.invariant-loop-step
invariant-loop-step l = (k : ℕ) → k < l.step → is_of_kind l.wanted
    (descriptor_at l.frames ((l.start + k) % length l.frames)) ≡ false
