use Rattle.std.proofs.Common.{◌≡◌, ℕ, ◌+◌, ◌/◌, ◌<◌, suc, length, arith, ◌∙◌, ap}
use Rattle.buf_pool.specs.Parts.{part_size, part_count}
use Rattle.buf_pool.proofs.PartFrames.{shared_out, part_fits}
use Rattle.buf_pool.proofs.PartsInPlace.{none_so_far, one_more, whole, divided}
use Rattle.buf_pool.proofs.pool.Pool.open.Goals as goal

pub loop-part-init : goal.loop-part-init
loop-part-init g c = none_so_far c.args.frames c.in_ok-parts.parts.items c.in_ok-parts.ensures.items

pub open-requires-clause-size : goal.open-requires-clause-size
open-requires-clause-size g c =
    shared_out c.args.frames c.part_count-count.result c.loop-part.part c.from.result
    c.part_count-count.ensures.count c.from.ensures

pub open-requires-clause-range : goal.open-requires-clause-range
open-requires-clause-range g c =
    let size : c.args.frames / c.part_count-count.result + c.from.result ≡ part_size c.args.frames
    c.loop-part.part = open-requires-clause-size g c in
    let inside : c.loop-part.part < part_count c.args.frames = omega
    (arith, c.loop-part-test.true, c.part_count-count.ensures.count) in
    let fits = part_fits c.args.frames c.loop-part.part c.requires.0 inside in
    omega (arith, size, fits.0, fits.1, c.loop-part.invariant.start, c.requires.1)

pub loop-part-preserved : goal.loop-part-preserved
loop-part-preserved g c =
    let next : ℕ = c.loop-part.part + 1 in
    let is : next ≡ suc c.loop-part.part = omega arith in
    let made = c.in_ok-open.field-0 in
    let value : c.new.result.value ≡ made = c.new.ensures in
    let all = one_more c.args.frames c.loop-part.part c.loop-part.first
    (c.args.frames / c.part_count-count.result + c.from.result) c.loop-part.parts.items c.new.result
    c.loop-part.invariant (
      ap (λ p. p.share.part) value ∙ ap (λ s. s.part) c.in_ok-open.ensures.share,
      ap (λ p. p.share.pool_frames) value ∙ ap (λ s. s.pool_frames) c.in_ok-open.ensures.share,
    ) (ap (λ p. length p.slots.items) value ∙ c.in_ok-open.ensures.size)
    (shared_out c.args.frames c.part_count-count.result c.loop-part.part c.from.result
    c.part_count-count.ensures.count c.from.ensures) in
    rw (is, c.in_ok-push.ensures.items) all

pub invariant_of-result : goal.invariant_of-result
invariant_of-result g c =
    let last : c.loop-part.part ≡ part_count c.args.frames = omega
    (arith, c.loop-part-test.false, c.loop-part.auto.part-end, c.part_count-count.ensures.count) in
    divided c.args.frames c.loop-part.part c.loop-part.first c.loop-part.parts.items c.requires.0
    last
    c.loop-part.invariant

pub returns : goal.returns
returns g c =
    let last : c.loop-part.part ≡ part_count c.args.frames = omega
    (arith, c.loop-part-test.false, c.loop-part.auto.part-end, c.part_count-count.ensures.count) in
    record {
      frames = whole c.args.frames c.loop-part.part c.loop-part.first c.loop-part.parts.items
          c.requires.0 last c.loop-part.invariant;
    }
