use Rattle.std.proofs.Common.{◌∙◌, ap}
use Rattle.buf_pool.specs.Frames.{pins_of}
use Rattle.buf_pool.proofs.OwnTags.{KeepsTags, pins_keep, said_of_pins}
use Rattle.buf_pool.proofs.part_index.PartIndex.unpin_one.Goals as goal

pub invariant_of-self : goal.invariant_of-self
invariant_of-self g c =
    let pinned = c.has_pin.ensures.0 c.if-has_pin.true in
    let k : KeepsTags c.args.self.now.share c.args.self.now.index c.unpin.new.self =
    pins_keep _ _ _ _ _ c.args.self.now.own
    (said_of_pins _ _ _ (ap pins_of pinned.1) c.unpin.ensures.frames) in
    record { size = k.size ∙ c.args.self.now.size; own = k.own }
