use Rattle.std.proofs.Common.{◌≡◌, ◌++◌, Some, arith, ⊎_elim, ◌∙◌, ap, length, take, drop}
use Rattle.std.proofs.Math.Seq.{take-append_seam}
use Rattle.std.proofs.lemmas.Bool.{cases_eq}
use Rattle.buf_pool.specs.Frames.{tag_at}
use Rattle.buf_pool.specs.Probes.{ProbesFind, empty_slots}
use Rattle.buf_pool.proofs.TableSearch.{reaches_kept, reaches_same}
use Rattle.buf_pool.proofs.table.TagTable.add.Goals as goal

pub returns-else-self-size : goal.returns-else-self-size
returns-else-self-size c =
    let new = c.insert.new.slots in
    let old = c.deref_mut-else-self-size.result.now in
    let same_slots : old ≡ c.args.self.now.slots.items = c.deref_mut-else-self-size.ensures.value in
    let size : c.args.self.now.slots.len ≡ length new = omega
    (arith, c.args.self.now.slots.ok.0, c.insert.ensures.full_slots.size, ap length same_slots) in
    let whole : take c.args.self.now.slots.len (new ++ drop (length new)
    c.args.self.now.slots.items) ≡ new = rw size (take-append_seam new _) in
    rw whole (record {
      size = c.insert.ensures.full_slots.size ∙ ap length same_slots ∙ c.requires.size.0;
      left = omega (arith, c.requires.left, c.insert.ensures.room, ap empty_slots same_slots);
      indexed = λ f t e.
          ⊎_elim
          (λ (same : f ≡ c.args.frame).
          let here : tag_at c.args.frames.now c.args.frame ≡ Some t = rw (← same) e in
          reaches_same _ t c.args.tag f c.args.frame (cc) same c.insert.ensures.reached)
          (λ (other : f ≡ c.args.frame → ⊥).
          let found : ProbesFind old t f = rw same_slots (c.requires.others f t other e) in
          reaches_kept _ _ t f c.insert.ensures.full_slots found)
          (cases_eq f c.args.frame);
    })
