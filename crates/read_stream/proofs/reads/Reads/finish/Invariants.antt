use Rattle.std.proofs.Common.{◌≡◌, ◌+◌, length, []}
use Rattle.read_stream.specs.IoContexts.{IsValidContext, ContextAdvanced}
use Rattle.read_stream.specs.StreamIos.{Issued, record_count, ios_started}
use Rattle.read_stream.proofs.reads.Reads.finish.Given as goal

abbrev pub invariant-loop-io : goal.invariant-loop-io
invariant-loop-io g l = record {
  handed : IsValidContext g.E.Execute g.W.World
      l.scope l.context;
  context_advanced : ContextAdvanced g.E.Execute g.M.Method l.fn.context l.context;
  issued : Issued l.scope g.W.World l.context.actor.now.known l.self;
  records : record_count l.self ≡ l.scope.total.value;
  started : ios_started l.self ≡ ios_started l.fn.self;
  batch : l.self.batch ≡ [];
}

abbrev pub decreases-loop-io : goal.decreases-loop-io
decreases-loop-io g l = length l.self.ended.items + length l.self.in_flight.items
