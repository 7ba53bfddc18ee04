use Rattle.read_stream.proofs.StageKeepsIssued.{handed-out-now}
use Rattle.read_stream.proofs.reads.Reads.hand_out.Goals as goal

pub returns-in-Ok-clause-handle_handed_out : goal.returns-in-Ok-clause-handle_handed_out
returns-in-Ok-clause-handle_handed_out g c = λ reads faults.
    handed-out-now c.args.scope.now g.W.World c.args.actor.now.known
    c.acquire.new.actor.known c.args.self.now c.in-Ok.token reads faults
    c.has_seen_its_marks.ensures
    c.has_seen_its_marks-in-Ok.ensures c.in-Ok.ensures.event c.in-Ok.ensures.token c.requires.issued
