use Rattle.std.proofs.Common.{[], ◌∷◌, ◌++◌, arith}
use Rattle.read_stream.proofs.ContextAdvancedLaws.{context_advanced_then}
use Rattle.read_stream.proofs.ReadsMatchRuns.{reads-pushed}
use Rattle.read_stream.proofs.BatchPushKeepsIssued.{issued-put}
use Rattle.read_stream.proofs.reads.Reads.start.Goals as goal

pub submit-requires-clause-issued : goal.submit-requires-clause-issued
submit-requires-clause-issued g c =
    let token = c.stage-token.ensures.token in
    let all = c.stage-token.ensures.same.records in
    let room = c.requires.room in
    issued-put c.args.scope.now g.W.World
    c.stage-token.new.context.actor.now.known c.stage-token.new.self c.put.new.self
    c.stage-token.result c.put.ensures token.0 token.1 token.2 c.stage-token.ensures.apart
    (omega arith) c.stage-token.ensures.issued

pub returns-then-not-scope-clause-context_advanced :
    goal.returns-then-not-scope-clause-context_advanced
returns-then-not-scope-clause-context_advanced g c =
    context_advanced_then c.submit.ensures.context_advanced c.stage-token.ensures.context_advanced

pub returns-else-len-eq-MOST_STAGED-clause-issued :
    goal.returns-else-len-eq-MOST_STAGED-clause-issued
returns-else-len-eq-MOST_STAGED-clause-issued g c =
    let token = c.stage-token.ensures.token in
    let all = c.stage-token.ensures.same.records in
    let room = c.requires.room in
    issued-put c.args.scope.now g.W.World
    c.stage-token.new.context.actor.now.known c.stage-token.new.self c.put.new.self
    c.stage-token.result c.put.ensures token.0 token.1 token.2 c.stage-token.ensures.apart
    (omega arith) c.stage-token.ensures.issued

pub returns-then-not-scope-clause-runs : goal.returns-then-not-scope-clause-runs
returns-then-not-scope-clause-runs g c = λ given runs f.
    c.submit.ensures.same.runs given (runs ++ c.args.run ∷ [])
    (reads-pushed c.args.scope.now c.stage-token.new.context.actor.now.known c.stage-token.new.self
    c.put.new.self c.stage-token.result c.args.run given runs c.put.ensures
    c.stage-token.ensures.run c.requires.run.not_empty
    (c.stage-token.ensures.same.runs given runs f))

pub returns-else-len-eq-MOST_STAGED-clause-runs : goal.returns-else-len-eq-MOST_STAGED-clause-runs
returns-else-len-eq-MOST_STAGED-clause-runs g c = λ given runs f.
    reads-pushed c.args.scope.now c.stage-token.new.context.actor.now.known c.stage-token.new.self
    c.put.new.self c.stage-token.result c.args.run given runs c.put.ensures
    c.stage-token.ensures.run c.requires.run.not_empty
    (c.stage-token.ensures.same.runs given runs f)
