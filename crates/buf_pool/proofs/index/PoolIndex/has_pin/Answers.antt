use Rattle.std.proofs.Common.{◌≡◌, ◌∙◌, sym, ap}
use Rattle.buf_pool.specs.declared.descriptor.Descriptor.TheVariants.{Free, Valid}
use Rattle.buf_pool.specs.Frames.{descriptor_at}
use Rattle.buf_pool.proofs.PinnedEntries.{pinned_where, same_tag}
use Rattle.buf_pool.proofs.index.PoolIndex.has_pin.Goals as goal

pub returns-then-eq : goal.returns-then-eq
returns-then-eq g c =
    let at = c.in-Some-Valid in
    let same : at.held ≡ c.args.tag = same_tag _ _ (sym c.eq.ensures ∙ c.if-eq.true) in
    let read = at.ensures.lookup.3.1 Free in
    let held : descriptor_at c.args.self.now c.args.frame ≡ Valid c.args.tag at.pins =
    rw (← c.self.view_is, ← c.deref.ensures.value)
    (sym read ∙ at.field-0-is ∙ ap (λ t. Valid t at.pins)
    same) in
    pinned_where _ _ _ held
