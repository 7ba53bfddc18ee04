use Rattle.read_stream.proofs.LaterActorKeepsAnswer.{open_looked}
use Rattle.read_stream.proofs.stream.ReadStream.note_actor.Goals as goal

pub returns-clause-is_open : goal.returns-clause-is_open
returns-clause-is_open g c =
    open_looked g.S.BlockSource.left g.W.World
    c.args.self.now c.args.actor.now c.of.result c.requires.is_open.as_left c.of.ensures
    c.requires.is_open.is_open
