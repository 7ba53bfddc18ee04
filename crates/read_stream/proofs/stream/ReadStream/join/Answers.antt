use Rattle.std.proofs.Common.{[], subst}
use Rattle.read_callbacks.specs.GoodPages.{IsGood}
use Rattle.buf_pool.specs.LookupAnswers.{pinned_page}
use Rattle.buf_pool.specs.declared.descriptor.Tag.{Tag}
use Rattle.read_stream.specs.QueuedBlocks.{HasInFront}
use Rattle.read_stream.specs.declared.stream.ReadStream.{ReadStream}
use Rattle.read_stream.proofs.ContextAdvancedLaws.{context_advanced_then}
use Rattle.read_stream.proofs.FrontIsFound.{found_pinned}
use Rattle.read_stream.proofs.SubmitKeepsIssued.{all-submitted}
use Rattle.read_stream.proofs.stream.ReadStream.join.Goals as goal

pub wait_for-requires-clause-all_submitted : goal.wait_for-requires-clause-all_submitted
wait_for-requires-clause-all_submitted g c =
    let n : ReadStream g.row.W.Denot g.row.S.Denot g.row.P.Denot = c.submit.new.self in
    all-submitted n.scope [] g.W.World c.submit.new.context.actor.now.known n.desk.now.reads
    c.submit.ensures.underway.invariant.records.issued c.submit.ensures.batch_empty
    (λ t i. absurd i)

pub returns-in-Hit-clause-between : goal.returns-in-Hit-clause-between
returns-in-Hit-clause-between g c =
    let n : ReadStream g.row.W.Denot g.row.S.Denot g.row.P.Denot = c.wait_for.new.self in
    let front : HasInFront n.desk.now.blocks.queue.items c.args.block [] =
    rw (c.wait_for.ensures.queue, c.submit.ensures.blocks.0) c.requires.front in
    found_pinned g.S.BlockSource.left g.W.World c.wait_for.new.context.actor.now.known
    n c.in-Hit.pin c.args.block c.wait_for.ensures.underway front
    (subst (λ (z : Tag). IsGood g.W.World.told z.checksums z.relation z.block (pinned_page c.in-Hit.pin))
    c.tag.ensures c.in-Hit.ensures.1)

pub returns-in-Hit-clause-context_advanced : goal.returns-in-Hit-clause-context_advanced
returns-in-Hit-clause-context_advanced g c =
    context_advanced_then c.wait_for.ensures.context_advanced c.submit.ensures.context_advanced

pub returns-in-Busy-clause-context_advanced : goal.returns-in-Busy-clause-context_advanced
returns-in-Busy-clause-context_advanced g c =
    context_advanced_then c.read_block.ensures.context_advanced
    (context_advanced_then c.wait_for.ensures.context_advanced c.submit.ensures.context_advanced)
