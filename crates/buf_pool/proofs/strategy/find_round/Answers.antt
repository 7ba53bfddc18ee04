use Rattle.std.proofs.Common.{◌≡◌, false, arith}
use Rattle.buf_pool.specs.Frames.{descriptor_at}
use Rattle.buf_pool.specs.FrameSearch.{is_of_kind}
use Rattle.buf_pool.proofs.CircularSteps.{all_round}
use Rattle.buf_pool.proofs.strategy.find_round.Goals as goal

pub returns : goal.returns
returns c = all_round (λ at. is_of_kind c.args.wanted (descriptor_at c.args.frames.now at) ≡ false) _
    _
    c.requires.start (λ k b. c.loop-step.invariant k (omega arith))
