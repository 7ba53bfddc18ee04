use Rattle.std.proofs.Common.{sym, ◌∙◌, arith}
use Rattle.read_stream.proofs.QueueMovesKeepIssued.{less-ended}
use Rattle.read_stream.proofs.reads.Reads.take_oldest.Goals as goal

pub returns-in-Some-clause-issued : goal.returns-in-Some-clause-issued
returns-in-Some-clause-issued g c = rw c.pop_front.ensures.items
    (less-ended c.args.scope.now g.W.World
    c.args.context.now.actor.now.known c.args.self.now c.in-Some.oldest
    (sym c.pop_front.ensures.value ∙ c.in-Some.is) c.requires.issued).0

pub returns-in-Some-clause-some : goal.returns-in-Some-clause-some
returns-in-Some-clause-some g c =
    let l = less-ended c.args.scope.now g.W.World
    c.args.context.now.actor.now.known c.args.self.now c.in-Some.oldest
    (sym c.pop_front.ensures.value ∙ c.in-Some.is) c.requires.issued in
    let one = l.2 in
    rw c.pop_front.ensures.items (l.1, omega arith)
