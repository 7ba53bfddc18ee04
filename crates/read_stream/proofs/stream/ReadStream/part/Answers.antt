use Rattle.read_stream.proofs.FrontIsRead.{oldest_facts}
use Rattle.read_stream.proofs.stream.ReadStream.part.Goals as goal

pub part-requires-clause-left : goal.part-requires-clause-left
part-requires-clause-left g c = oldest_facts g.S.BlockSource.left g.W.World
    c.args.context.now.actor.now.known c.args.self.now c.args.block c.requires.in_front

pub part-requires-2-clause-left : goal.part-requires-2-clause-left
part-requires-2-clause-left g c = oldest_facts g.S.BlockSource.left g.W.World
    c.read_rest.new.context.actor.now.known c.read_rest.new.self c.args.block
    c.read_rest.ensures.in_front
