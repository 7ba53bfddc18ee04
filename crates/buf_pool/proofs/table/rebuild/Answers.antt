use Rattle.std.proofs.Common.{◌≡◌, ◌∙◌, arith, ⊎_elim, Some}
use Rattle.std.proofs.lemmas.Bool.{cases_eq}
use Rattle.buf_pool.specs.Frames.{tag_at}
use Rattle.buf_pool.proofs.TableSearch.{reaches_kept, reaches_same}
use Rattle.buf_pool.proofs.table.rebuild.Goals.{in-Some, in_default}
use Rattle.buf_pool.proofs.table.rebuild.Goals as goal

pub loop-i-preserved : goal.loop-i-preserved
loop-i-preserved c =
    elim c.match-tag.branch [
      | in-Some w ↦ record {
        size = c.match-tag.auto.slots ∙ c.loop-i.invariant.size;
        room = rw w.slots-is (omega (arith, w.insert.ensures.room, w.insert.ensures.full_slots.size));
        found = λ f tag b e.
            ⊎_elim
            (λ (same : f ≡ c.loop-i.i).
            let here : tag_at c.args.frames.now c.loop-i.i ≡ Some tag = rw (← same) e in
            rw w.slots-is (reaches_same _ tag w.in-Some.tag f c.loop-i.i (cc) same
            w.insert.ensures.reached))
            (λ (other : f ≡ c.loop-i.i → ⊥).
            rw w.slots-is (reaches_kept _ _ tag f w.insert.ensures.full_slots
            (c.loop-i.invariant.found f tag (omega arith) e)))
            (cases_eq f c.loop-i.i);
      }
      | in_default w ↦ record {
        size = c.match-tag.auto.slots ∙ c.loop-i.invariant.size;
        room = rw w.slots-is (omega arith);
        found = λ f tag b e.
            ⊎_elim
            (λ (same : f ≡ c.loop-i.i).
            let here : tag_at c.args.frames.now c.loop-i.i ≡ Some tag = rw (← same) e in
            absurd (w.in_default.not-Some tag (cc)))
            (λ (other : f ≡ c.loop-i.i → ⊥).
            rw w.slots-is (c.loop-i.invariant.found f tag (omega arith) e))
            (cases_eq f c.loop-i.i);
      }
    ]
