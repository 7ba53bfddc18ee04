use Rattle.std.proofs.Common.{◌≡◌, ◌<◌, length, set, count_by}
use Rattle.std.proofs.lemmas.List.{get_or_read}
use Rattle.buf_pool.specs.declared.descriptor.Descriptor.TheVariants.{Free}
use Rattle.buf_pool.specs.Frames.{is_free}
use Rattle.buf_pool.proofs.ElementCounts.{counted_after}
use Rattle.buf_pool.proofs.FrameChanges.{Fits, same_tag_fits, lawful_set, frames_set, table_set}
use Rattle.buf_pool.proofs.FrameChanges.{clock_set}
use Rattle.buf_pool.proofs.index.PoolIndex.set_entry.Goals as goal

pub invariant_of-self : goal.invariant_of-self
invariant_of-self g c =
    let items = c.self.inside.frames.items in
    let inside : c.args.frame < length items = rw c.self.view_is c.requires.not_free.0 in
    let fits : Fits g.W.World.handles items c.args.frame c.args.entry =
    same_tag_fits _ _ _ _ c.self.invariant.0.lawful (rw c.self.view_is c.requires.tag)
    c.requires.not_in_progress in
    let read = get_or_read items c.args.frame c.index.result.now inside c.index.ensures Free in
    let counted : c.note.new.self.count ≡ count_by is_free (set items c.args.frame c.args.entry) =
    counted_after is_free Free items c.args.frame c.args.entry c.self.inside.free.count _ inside
    c.self.invariant.0.vacant (rw (← read) c.note.ensures.count) in (
      frames_set _ _ _ _ _ _ _ _ inside c.self.invariant.0 fits counted
          (c.note.ensures.start _ c.self.invariant.0.start inside),
      table_set _ _ _ _ _ inside c.self.invariant.1 (λ tag e. c.self.invariant.1.indexed
          c.args.frame tag (rw c.self.view_is (c.requires.tag tag e))),
      clock_set _ _ _ _ _ c.self.invariant.2,
    )

pub returns-clause-lawful : goal.returns-clause-lawful
returns-clause-lawful g c =
    lawful_set _ _ _ _ (rw c.self.view_is c.requires.not_free.0) c.self.invariant.0.lawful
    (same_tag_fits _ _ _ _ c.self.invariant.0.lawful (rw c.self.view_is c.requires.tag)
    c.requires.not_in_progress)
