use Rattle.read_stream.proofs.ContextAdvancedLaws.{context_advanced_then}
use Rattle.read_stream.proofs.stream.ReadStream.start_last.Goals as goal

pub returns-then-not-may_start_last-clause-started :
    goal.returns-then-not-may_start_last-clause-started
returns-then-not-may_start_last-clause-started g c = λ block front free.
    absurd (let may = c.may_start_last.ensures.front block front free in
    let not = c.if-not-may_start_last.true in cc)

pub returns-in-Some-clause-context_advanced : goal.returns-in-Some-clause-context_advanced
returns-in-Some-clause-context_advanced g c =
    context_advanced_then c.submit.ensures.context_advanced c.start.ensures.context_advanced
