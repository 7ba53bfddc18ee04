use Rattle.std.specs.Prelude.{⊤}
use Rattle.buf_pool.proofs.slot.PageSlot.reader.Given as goal

abbrev pub invariant-loop : goal.invariant-loop
invariant-loop g l = ⊤
