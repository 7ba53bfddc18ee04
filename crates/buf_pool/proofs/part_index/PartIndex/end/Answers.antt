use Rattle.std.proofs.Common.{◌∙◌}
use Rattle.buf_pool.proofs.OwnTags.{KeepsTags, end_keeps}
use Rattle.buf_pool.proofs.part_index.PartIndex.end.Goals as goal

pub invariant_of-self : goal.invariant_of-self
invariant_of-self g c =
    let k : KeepsTags c.args.self.now.share c.args.self.now.index c.end.new.self =
    end_keeps _ _ _ _ _ _ _ c.args.self.now.own c.end.ensures.answer in
    record { size = k.size ∙ c.args.self.now.size; own = k.own }
