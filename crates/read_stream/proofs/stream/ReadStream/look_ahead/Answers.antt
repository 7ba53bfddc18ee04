use Rattle.std.proofs.Common.{◌≡◌, length, ap, sym, subst, ◌∙◌, List, true}
use Rattle.read_stream.specs.declared.queue.QueuedBlock.{QueuedBlock}
use Rattle.read_stream.specs.declared.stream.ReadStream.{ReadStream}
use Rattle.read_stream.specs.IoContexts.{IsValidContext}
use Rattle.read_stream.proofs.ContextAdvancedLaws.{valid_context_then, context_advanced_refl}
use Rattle.read_stream.proofs.ContextAdvancedLaws.{context_advanced_then}
use Rattle.read_stream.proofs.StreamInvariantLaws.{same_stream_refl, same_stream_then}
use Rattle.read_stream.proofs.UnderwayLaws.{none_in_progress}
use Rattle.read_stream.proofs.stream.ReadStream.look_ahead.Goals as goal

pub loop-self-init : goal.loop-self-init
loop-self-init g c = record {
  valid_context = c.requires.valid_context;
  context_advanced = context_advanced_refl c.args.context.now;
  underway = c.requires.underway;
  same_stream = same_stream_refl g.S.BlockSource.left c.args.self.now;
}

pub loop-self-preserved : goal.loop-self-preserved
loop-self-preserved g c =
    let inv = c.loop-self.invariant in
    let done = c.take_next.ensures in
    record {
      valid_context = subst (λ z. IsValidContext g.E.Execute g.W.World z c.take_next.new.context)
          (sym done.same_stream.reading.scope)
          (valid_context_then inv.valid_context done.context_advanced);
      context_advanced = context_advanced_then done.context_advanced inv.context_advanced;
      underway = done.underway;
      same_stream = same_stream_then g.S.BlockSource.left c.args.self.now c.loop-self.self
          c.take_next.new.self inv.same_stream done.same_stream;
    }

pub returns-clause-ended : goal.returns-clause-ended
returns-clause-ended g c = λ none.
    let s : ReadStream g.row.W.Denot g.row.S.Denot g.row.P.Denot = c.loop-self.self in
    let u = c.loop-self.invariant.underway in
    let not = c.loop-self-test.false in
    u.running.position.none_left_if_over (c.wants_more.ensures.idle
    (λ (t : c.wants_more.result ≡ true). cc)
    (u.running.plan.ahead ∙ ap (λ (z : List (QueuedBlock g.row.P.Denot)). length z) none)
    (none_in_progress g.S.BlockSource.left g.W.World c.loop-self.context.actor.now.known s none u))
