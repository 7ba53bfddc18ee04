use Rattle.std.proofs.Common.{◌≡◌, length, ◌∙◌, ap, sym, not, eqb, ◌&&◌}
use Rattle.buf_pool.proofs.PartFrames.{shown_frame}
use Rattle.buf_pool.proofs.part.Part.look.Goals as goal

pub returns-in-Hit : goal.returns-in-Hit
returns-in-Hit g c =
    let part = c.args.self.now in
    let same : c.deref.result.now ≡ c.deref-2.result.now = c.deref.ensures
    ∙ sym c.deref-2.ensures in
    shown_frame part.share.pool_frames part.share.part c.deref-2.result.now.share.pool_frames
    c.deref-2.result.now.share.part part.first c.in-Hit.frame (length c.deref-2.result.now.index)
    c.ne.result
    (c.ne.ensures ∙ ap
    (λ i. not (eqb i.share.part part.share.part && eqb i.share.pool_frames part.share.pool_frames))
    same)
    c.if-ne.false part.from c.in-Hit.ensures.range c.deref-2.result.now.size
