use Rattle.std.proofs.Common.{◌≡◌, ◌<◌, length, set, count_by}
use Rattle.std.proofs.lemmas.List.{get_or_read}
use Rattle.buf_pool.specs.declared.descriptor.Descriptor.TheVariants.{Free, InProgress}
use Rattle.buf_pool.specs.Frames.{is_free}
use Rattle.buf_pool.proofs.ElementCounts.{counted_after}
use Rattle.buf_pool.proofs.FrameChanges.{Fits, absent_fits, lawful_set, frames_set}
use Rattle.buf_pool.proofs.FrameChanges.{clock_set}
use Rattle.buf_pool.proofs.index.PoolIndex.begin_entry.Goals as goal

pub invariant_of-self : goal.invariant_of-self
invariant_of-self g c =
    let items = c.self.inside.frames.items in
    let entry = InProgress c.args.tag c.args.reference in
    let inside : c.args.frame < length items = rw c.self.view_is c.requires.frame in
    let fits : Fits g.W.World.handles items c.args.frame entry =
    absent_fits _ _ _ _ _ (rw c.self.view_is c.requires.absent) c.requires.range in
    let read = get_or_read items c.args.frame c.index.result.now inside c.index.ensures Free in
    let counted : c.note.new.self.count ≡ count_by is_free (set items c.args.frame entry) =
    counted_after is_free Free items c.args.frame entry c.self.inside.free.count _ inside
    c.self.invariant.0.vacant (rw (← read) c.note.ensures.count) in (
      frames_set _ _ _ _ _ _ _ _ inside c.self.invariant.0 fits counted
          (c.note.ensures.start _ c.self.invariant.0.start inside),
      rw (← c.deref.ensures.value) c.add.ensures,
      clock_set _ _ _ _ _ c.self.invariant.2,
    )

pub returns-clause-lawful : goal.returns-clause-lawful
returns-clause-lawful g c =
    lawful_set _ _ _ _ (rw c.self.view_is c.requires.frame) c.self.invariant.0.lawful
    (absent_fits _ _ _ _ _ (rw c.self.view_is c.requires.absent) c.requires.range)
