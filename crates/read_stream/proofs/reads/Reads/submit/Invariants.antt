use Rattle.std.proofs.Common.{◌≡◌, ℕ, ◌+◌, ◌≤◌, ◌<◌, ◌++◌, length, List, take, map}
use Rattle.std.specs.List.{All}
use Rattle.read_plan.specs.declared.runs.Run.{Run}
use Rattle.read_stream.specs.IoContexts.{IsValidContext, ContextAdvanced}
use Rattle.read_stream.specs.StreamIos.{Issued, ReadsForRuns, record_count, ios_started}
use Rattle.read_stream.proofs.reads.Reads.submit.Given as goal

abbrev pub invariant-loop-token : goal.invariant-loop-token
invariant-loop-token g l = record {
  handed : IsValidContext g.E.Execute g.W.World
      l.scope l.context;
  context_advanced : ContextAdvanced g.E.Execute g.M.Method l.initial.context l.context;
  issued : Issued l.scope g.W.World l.context.actor.now.known l.self;
  records : record_count l.self ≡ record_count l.initial.self;
  started : ios_started l.self ≡ ios_started l.initial.self;
  free : l.self.free ≡ l.initial.self.free;
  runs : (given : ℕ) (runs : List Run) → ReadsForRuns l.scope l.initial.context.actor.now.known
      l.initial.self given runs → ReadsForRuns l.scope l.context.actor.now.known l.self given runs;
  size : length l.references ≡ 32;
  few : l.submitted + length l.self.batch ≤ 32;
  range : All (λ t. t.handle < g.W.World.handles) (take l.submitted l.references);
  method : l.context.method.now ≡ l.initial.context.method.now;
  taken : take l.submitted l.references ++ map (λ t. t.0) l.self.batch
      ≡ map (λ t. t.0) l.initial.self.batch;
}

abbrev pub decreases-loop-token : goal.decreases-loop-token
decreases-loop-token g l = length l.self.batch
