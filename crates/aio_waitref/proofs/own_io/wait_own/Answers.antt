use Rattle.aio_word.specs.declared.Known.{Known}
use Rattle.aio_waitref.proofs.WaitKeepsInFlight.{in_flight_taken_up, in_flight_taken}
use Rattle.aio_waitref.proofs.own_io.wait_own.Goals as goal

pub try_take-requires-clause-token : goal.try_take-requires-clause-token
try_take-requires-clause-token g c _ _ =
    in_flight_taken_up c.args.token c.args.actor.now.known c.wait.new.actor.known
    (g.E.Execute.reads c.args.runner.now) (g.E.Execute.reads c.wait.new.runner)
    (g.E.Execute.faults c.args.runner.now) (g.E.Execute.faults c.wait.new.runner)
    c.wait.ensures.marks c.requires.token

pub unreachable-requires : goal.unreachable-requires
unreachable-requires g c =
    let p : Known = c.args.actor.now.known in
    let q : Known = c.wait.new.actor.known in
    let r : Known = c.try_take.new.actor.known in
    let (w, word_load, not_there) = c.in-NotYet.ensures.not_yet.2 in
    in_flight_taken c.args.token c.reference-reference.result w p q r
    (g.E.Execute.reads c.args.runner.now) (g.E.Execute.reads c.wait.new.runner)
    (g.E.Execute.faults c.args.runner.now) (g.E.Execute.faults c.wait.new.runner)
    c.reference-reference.ensures c.wait.ensures.marks c.requires.token c.wait.ensures.done word_load
    not_there

pub returns-clause-record : goal.returns-clause-record
returns-clause-record g c = let ready = c.in-Ready.ensures.record in
    (ready.0, (λ aim i. ready.1 aim (c.wait.ensures.marks.grows.aims (c.args.token, aim) i)))
