use Rattle.std.proofs.Common.{arith, rules}
use Rattle.std.specs.Prelude.{Some, None}
use Rattle.read_stream.proofs.UnderwayLaws.{underway_taken}
use Rattle.read_stream.proofs.stream.ReadStream.take_next.Goals as goal

pub start-requires-clause-underway : goal.start-requires-clause-underway
start-requires-clause-underway g c =
    let near = c.requires.may_take.ahead.0 in
    let far = c.requires.may_take.sound.distance.1 in
    underway_taken g.S.BlockSource.left g.W.World c.args.context.now.actor.now.known
    c.args.self.now c.next.new.self c.in-Some.block c.in-Some.per_buffer_data c.take-run.new.self
    (Some c.in-Some-run.run') c.in-Some.ensures.first (search rules) (omega arith)
    c.requires.underway

pub returns-in_default-run-clause-underway : goal.returns-in_default-run-clause-underway
returns-in_default-run-clause-underway g c =
    let near = c.requires.may_take.ahead.0 in
    let far = c.requires.may_take.sound.distance.1 in
    underway_taken g.S.BlockSource.left g.W.World c.args.context.now.actor.now.known
    c.args.self.now c.next.new.self c.in-Some.block c.in-Some.per_buffer_data c.take-run.new.self
    None c.in-Some.ensures.first (search rules) (omega arith) c.requires.underway
