use Rattle.std.proofs.Common.{◌<◌, suc, ◌+◌, arith}
use Rattle.std.proofs.lemmas.Nat.{mod_below}
use Rattle.buf_pool.specs.Parts.{part_count, part_of}
use Rattle.buf_pool.proofs.PartFrames.{part_of_frame, parts_some, first_ordered, first_after_last}
use Rattle.buf_pool.proofs.laws.a_frame_is_of_one_part.Goals as goal

pub returns-clause-one : goal.returns-clause-one
returns-clause-one c = λ frames f t u x y.
    part_of_frame frames f (part_of (part_count frames) t) (part_of (part_count frames) u) x y

pub returns-clause-below : goal.returns-clause-below
returns-clause-below c = λ frames f t least x.
    let part = part_of (part_count frames) t in
    let is : part < part_count frames =
    mod_below (t.relation + t.block) (part_count frames) (parts_some frames least) in
    omega (
      arith,
      x.1,
      first_ordered frames (suc part) (part_count frames) is,
      first_after_last frames
          least,
    )
