use Rattle.std.proofs.Common.{sym, ◌∙◌, subst}
use Rattle.read_stream.specs.QueuedBlocks.{IsValidWant}
use Rattle.read_stream.specs.declared.queue.Want.{Want}
use Rattle.read_stream.specs.declared.queue.Want.TheVariants as want
use Rattle.read_stream.proofs.FrontIsFound.{found_end}
use Rattle.read_stream.proofs.FrontOfQueue.{in_front_as}
use Rattle.read_stream.proofs.StopIsNextAnswer.{first-in}
use Rattle.read_stream.proofs.QueueMovesKeepIssued.{nothing-of}
use Rattle.read_stream.proofs.stream.ReadStream.find.Goals as goal

pub returns-in_default-clause-between : goal.returns-in_default-clause-between
returns-in_default-clause-between g c =
    let none = nothing-of c.args.self.now.desk.now.blocks.queue.items
    (sym c.front.ensures ∙ c.in_default.is) in
    found_end g.S.BlockSource.left g.W.World c.args.context.now.actor.now.known c.args.self.now
    none (c.requires.ended none) c.requires.underway

pub find_read-requires-clause-front : goal.find_read-requires-clause-front
find_read-requires-clause-front g c =
    in_front_as c.args.self.now.desk.now.blocks.queue.items c.in-Some.asked want.Read
    (sym c.front.ensures ∙ c.in-Some.is) c.in-Read.is

pub look-requires-clause-front : goal.look-requires-clause-front
look-requires-clause-front g c =
    in_front_as c.args.self.now.desk.now.blocks.queue.items c.in-Some.asked want.Look
    (sym c.front.ensures ∙ c.in-Some.is) c.in-Look.is

pub join-requires-clause-front : goal.join-requires-clause-front
join-requires-clause-front g c =
    in_front_as c.args.self.now.desk.now.blocks.queue.items c.in-Some.asked
    (want.Join c.in-Join.reference) (sym c.front.ensures ∙ c.in-Some.is) c.in-Join.is

pub join-requires-clause-range : goal.join-requires-clause-range
join-requires-clause-range g c =
    subst (λ (z : Want). IsValidWant g.W.World.handles z) c.in-Join.is
    (c.requires.underway.running.wants c.in-Some.asked
    (first-in c.args.self.now.desk.now.blocks.queue.items c.in-Some.asked
    (sym c.front.ensures ∙ c.in-Some.is)))
