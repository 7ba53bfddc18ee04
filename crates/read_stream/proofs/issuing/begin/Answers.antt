use Rattle.std.proofs.Common.{refl}
use Rattle.read_stream.proofs.ActorAdvancedLaws.{advanced_taking_up}
use Rattle.read_stream.proofs.ContextAdvancedLaws.{context_advanced_by}
use Rattle.read_stream.proofs.issuing.begin.Goals as goal

pub returns-then-alone-clause-context_advanced : goal.returns-then-alone-clause-context_advanced
returns-then-alone-clause-context_advanced g c =
    let x = c.args.context.now in
    let s = c.batch_submitted.ensures in
    context_advanced_by x c.batch_submitted.new.actor x.method.now c.batch_submitted.new.runner
    s.same s.told (advanced_taking_up x.actor.now.known c.batch_submitted.new.actor.known _ _ _ _
    s.marks) refl

pub returns-clause-context_advanced : goal.returns-clause-context_advanced
returns-clause-context_advanced g c =
    let x = c.args.context.now in
    let s = c.batch_submitted-2.ensures in
    context_advanced_by x c.batch_submitted-2.new.actor c.batch_submitted-2.new.self
    c.batch_submitted-2.new.runner s.same s.told (advanced_taking_up x.actor.now.known
    c.batch_submitted-2.new.actor.known _ _ _ _ s.marks) s.stands_on
