use Rattle.std.proofs.Common.{subst}
use Rattle.read_stream.specs.Parts.{IsPartOfOldest}
use Rattle.read_stream.specs.declared.parts.Part.{Part}
use Rattle.read_stream.proofs.FrontIsFound.{found_lent, found_stop}
use Rattle.read_stream.proofs.stream.ReadStream.lend.Goals as goal

pub returns-in-Page-clause-between : goal.returns-in-Page-clause-between
returns-in-Page-clause-between g c =
    let n = c.part.new.self in
    found_lent g.S.BlockSource.left g.W.World c.part.new.context.actor.now.known n c.args.block
    c.part.ensures.in_front
    (subst (λ (z : Part). IsPartOfOldest g.W.World.told n.desk.now.reads z) c.in-Page.is
    c.part.ensures.part)

pub returns-in-Stop-clause-between : goal.returns-in-Stop-clause-between
returns-in-Stop-clause-between g c =
    let n = c.part.new.self in
    found_stop g.S.BlockSource.left g.W.World c.part.new.context.actor.now.known n c.args.block
    c.in-Stop.why c.part.ensures.in_front
    (subst (λ (z : Part). IsPartOfOldest g.W.World.told n.desk.now.reads z) c.in-Stop.is
    c.part.ensures.part)
