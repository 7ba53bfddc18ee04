use Rattle.std.proofs.Common.{◌≡◌, Some, ◌∙◌, sym}
use Rattle.buf_pool.specs.Frames.{pins_at}
use Rattle.buf_pool.proofs.OwnTags.{KeepsTags, pins_keep, said_of_pins}
use Rattle.buf_pool.proofs.part_index.PartIndex.look_and_pin.Goals as goal

pub invariant_of-self : goal.invariant_of-self
invariant_of-self g c =
    let is : pins_at c.args.self.now.index c.in-Hit.frame ≡ Some c.in-Some.pins =
    sym c.pins.ensures ∙ c.in-Some.is in
    let k : KeepsTags c.args.self.now.share c.args.self.now.index c.pin.new.self =
    pins_keep _ _ _ _ _ c.args.self.now.own (said_of_pins _ _ _ is c.pin.ensures.frames) in
    record { size = k.size ∙ c.args.self.now.size; own = k.own }
