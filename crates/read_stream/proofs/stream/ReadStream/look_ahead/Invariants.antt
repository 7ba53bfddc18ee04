use Rattle.std.proofs.Common.{◌+◌, ◌-◌, cond}
use Rattle.read_stream.specs.IoContexts.{IsValidContext, ContextAdvanced}
use Rattle.read_stream.specs.StreamState.{Underway}
use Rattle.read_stream.specs.Changes.{SameStream}
use Rattle.read_stream.proofs.stream.ReadStream.look_ahead.Given as goal

abbrev pub invariant-loop-self : goal.invariant-loop-self
invariant-loop-self g l = record {
  valid_context : IsValidContext g.E.Execute g.W.World l.self.scope l.context;
  context_advanced : ContextAdvanced g.E.Execute g.M.Method l.initial.context l.context;
  underway : Underway g.S.BlockSource.left g.W.World l.context.actor.now.known l.self;
  same_stream : SameStream g.S.BlockSource.left l.initial.self l.self;
}

abbrev pub decreases-loop-self : goal.decreases-loop-self
decreases-loop-self g l = (16385 - l.self.desk.now.blocks.plan.blocks_ahead)
    + cond l.self.desk.now.blocks.over 0 1
