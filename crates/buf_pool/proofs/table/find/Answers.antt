use Rattle.std.proofs.Common.{◌∙◌, ap, inl, inr, arith, not}
use Rattle.buf_pool.proofs.TableSearch.{absent_after, is_empty}
use Rattle.buf_pool.proofs.table.find.Goals as goal

pub returns : goal.returns
returns c = absent_after c.args.slots.now _ _ c.loop-step.step c.requires.indexed
    c.loop-step.invariant (inr (omega arith))

pub returns-then-is_none : goal.returns-then-is_none
returns-then-is_none c =
    absent_after c.args.slots.now _ _ c.loop-step.step c.requires.indexed c.loop-step.invariant
    (inl (rw (← c.home-home.ensures.home) (is_empty _ (c.is_none.ensures ∙ ap not
    c.if-is_none.true))))
