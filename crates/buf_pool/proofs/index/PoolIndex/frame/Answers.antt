use Rattle.std.proofs.Common.{◌≡◌, ◌<◌, ◌∙◌, ap, sym, length}
use Rattle.std.proofs.lemmas.List.{get_or_read}
use Rattle.std.proofs.lemmas.Bool.{false≢true}
use Rattle.buf_pool.specs.declared.descriptor.Descriptor.TheVariants.{Free, InProgress}
use Rattle.buf_pool.specs.Frames.{descriptor_tag}
use Rattle.buf_pool.proofs.index.PoolIndex.frame.Goals as goal

pub returns-else-awaits-clause-answer : goal.returns-else-awaits-clause-answer
returns-else-awaits-clause-answer g c = λ f e.
    let found = c.in_ok-frame.ensures in
    let items = c.self.inside.frames.items in
    let same : f ≡ c.in_ok-frame.frame = found.lawful.tags f c.in_ok-frame.frame c.args.tag
    (ap descriptor_tag e) found.found in
    let inside : c.in_ok-frame.frame < length items = rw c.self.view_is found.range in
    let read = get_or_read items c.in_ok-frame.frame c.index.result.now inside c.index.ensures Free
    in
    let held : c.index.result.now ≡ InProgress c.args.tag c.args.reference = rw
    (read, c.self.view_is, ← same) e in
    absurd (false≢true (sym c.if-awaits.false ∙ c.awaits.ensures.1 held))
