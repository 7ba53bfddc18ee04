use Rattle.read_stream.proofs.ContextAdvancedLaws.{context_advanced_then}
use Rattle.read_stream.proofs.FrontIsRead.{oldest_in_front}
use Rattle.read_stream.proofs.stream.ReadStream.find_read.Goals as goal

pub lend-requires-clause-in_front : goal.lend-requires-clause-in_front
lend-requires-clause-in_front g c =
    oldest_in_front g.S.BlockSource.left g.W.World c.args.context.now.actor.now.known
    c.args.self.now c.args.block c.requires.underway c.requires.front
    (c.has_given.ensures c.if-has_given.true)

pub lend-requires-2-clause-in_front : goal.lend-requires-2-clause-in_front
lend-requires-2-clause-in_front g c =
    oldest_in_front g.S.BlockSource.left g.W.World c.take_up.new.context.actor.now.known
    c.take_up.new.self c.args.block c.take_up.ensures.underway
    (rw c.take_up.ensures.queue c.requires.front) c.take_up.ensures.oldest

pub returns-clause-context_advanced : goal.returns-clause-context_advanced
returns-clause-context_advanced g c =
    context_advanced_then c.lend-2.ensures.context_advanced c.take_up.ensures.context_advanced
