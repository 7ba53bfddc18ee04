use Rattle.std.proofs.Common.{◌≡◌, ℕ, true, false, length, take, get_or}
use Rattle.heap_tuple.specs.Chains.{contains}
use Rattle.heap_tuple.proofs.chains.set_lengths.Given as goal

abbrev pub invariant-loop-item : goal.invariant-loop-item
invariant-loop-item l = record {
  size : length l.lengths ≡ length l.initial.lengths;
  there : (x : ℕ) → contains (take l.item-index l.items) x ≡ true → get_or l.lengths x 0 ≡ l.chain;
  elsewhere : (x : ℕ) → contains (take l.item-index l.items) x ≡ false → get_or l.lengths x 0
      ≡ get_or l.initial.lengths x 0;
}
