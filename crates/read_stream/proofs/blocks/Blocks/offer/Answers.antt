use Rattle.std.proofs.Common.{◌∙◌, ap, sym, ◌++◌, List, ℕ}
use Rattle.std.proofs.lemmas.List.{append-nil}
use Rattle.read_plan.specs.declared.runs.Offer.{Offer}
use Rattle.read_stream.specs.QueuedBlocks.{pending_blocks}
use Rattle.read_stream.proofs.QueuedBlocks.{none_out, offer_keeps_blocks, run_blocks_out}
use Rattle.read_stream.proofs.blocks.Blocks.offer.Goals as goal

pub returns-in-Flush-clause-blocks : goal.returns-in-Flush-clause-blocks
returns-in-Flush-clause-blocks g c =
    let was = c.args.self.now.plan in
    let now = c.offer.new.self.pending in
    offer_keeps_blocks was.combine was.segment c.args.block was.pending now c.offer.result
    c.offer.ensures.answer
    ∙ ap (λ (z : Offer). run_blocks_out z ++ pending_blocks now) c.in-Flush.is

pub returns-then-is_whole-clause-blocks : goal.returns-then-is_whole-clause-blocks
returns-then-is_whole-clause-blocks g c =
    let was = c.args.self.now.plan in
    let now = c.offer.new.self.pending in
    rw (c.take_pending.ensures.rest, c.take_pending.ensures.run)
    (offer_keeps_blocks was.combine was.segment c.args.block was.pending now c.offer.result
    c.offer.ensures.answer
    ∙ (ap (λ (z : List ℕ). z ++ pending_blocks now) (none_out c.offer.result c.in_default.not-Flush)
    ∙ sym (append-nil (pending_blocks now))))

pub returns-else-is_whole-clause-blocks : goal.returns-else-is_whole-clause-blocks
returns-else-is_whole-clause-blocks g c =
    let was = c.args.self.now.plan in
    let now = c.offer.new.self.pending in
    offer_keeps_blocks was.combine was.segment c.args.block was.pending now c.offer.result
    c.offer.ensures.answer
    ∙ ap (λ (z : List ℕ). z ++ pending_blocks now) (none_out c.offer.result c.in_default.not-Flush)
