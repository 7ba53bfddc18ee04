use Rattle.std.proofs.Common.{arith, ◌≡◌, List, length, ap}
use Rattle.std.specs.Prelude.{None}
use Rattle.read_stream.proofs.UnderwayLaws.{underway_later}
use Rattle.read_stream.proofs.stream.ReadStream.submit.Goals as goal

pub returns-clause-underway : goal.returns-clause-underway
returns-clause-underway g c =
    let done = c.submit.ensures in
    let none : length c.submit.new.self.batch ≡ 0 = ap (λ (z : List _). length z) done.none in
    underway_later g.S.BlockSource.left g.W.World
    c.args.context.now.actor.now.known c.submit.new.context.actor.now.known c.args.self.now
    c.submit.new.self None 0 0 c.args.self.now.desk.now.blocks.plan.distance done.issued
    (omega arith) done.same (omega arith) c.requires.underway
