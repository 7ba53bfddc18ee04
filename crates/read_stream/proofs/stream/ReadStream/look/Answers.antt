use Rattle.std.proofs.Common.{subst}
use Rattle.read_callbacks.specs.GoodPages.{IsGood}
use Rattle.buf_pool.specs.LookupAnswers.{pinned_page}
use Rattle.buf_pool.specs.declared.descriptor.Tag.{Tag}
use Rattle.read_stream.proofs.FrontIsFound.{found_pinned}
use Rattle.read_stream.proofs.stream.ReadStream.look.Goals as goal

pub returns-in-Hit-clause-between : goal.returns-in-Hit-clause-between
returns-in-Hit-clause-between g c =
    found_pinned g.S.BlockSource.left g.W.World c.args.context.now.actor.now.known
    c.args.self.now c.in-Hit.pin c.args.block c.requires.underway c.requires.front
    (subst (λ (z : Tag). IsGood g.W.World.told z.checksums z.relation z.block (pinned_page c.in-Hit.pin))
    c.tag.ensures c.in-Hit.ensures.1)
