use Rattle.std.proofs.Common.{◌≡◌, ◌+◌, ◌-◌, ◌<◌, ◌%◌, length, ◌∙◌, ap, sym, subst, bit_and, arith}
use Rattle.std.proofs.lemmas.Nat.{mod_below}
use Rattle.buf_pool.specs.Parts.{part_count}
use Rattle.buf_pool.specs.PoolParts.{frames_of, IsPart}
use Rattle.buf_pool.proofs.PartFrames.{masked, parts_some}
use Rattle.buf_pool.proofs.pool.Pool.part.Goals as goal

pub returns-clause-tag : goal.returns-clause-tag
returns-clause-tag g c =
    let items = c.self.inside.parts.items in
    let frames = frames_of items in
    let sum = c.from.result + c.from-2.result in
    let at = bit_and sum (c.len.result - 1) in
    let whole = c.self.invariant in
    let size : c.len.result ≡ part_count frames = c.len.ensures ∙ c.self.inside.parts.ok.0
    ∙ whole.count in
    let number : at ≡ sum % part_count frames = masked frames sum c.len.result whole.range size in
    let below = mod_below sum (part_count frames) (parts_some frames whole.range) in
    let inside : at < length items = omega (arith, number, below, whole.count) in
    let is : IsPart frames at c.index.result.now =
    subst (λ x. IsPart frames at x) (sym c.index.ensures)
    (whole.places at c.index.result.now inside) in
    let added : c.args.tag.relation + c.args.tag.block ≡ sum = omega
    (arith, c.from.ensures, c.from-2.ensures) in
    ap (λ p. (c.args.tag.relation + c.args.tag.block) % part_count p.share.pool_frames)
    c.deref.ensures
    ∙ ap (λ n. (c.args.tag.relation + c.args.tag.block) % part_count n) is.1
    ∙ ap (λ n. n % part_count frames) added ∙ sym number ∙ sym is.0
    ∙ ap (λ p. p.share.part) (sym c.deref.ensures)
