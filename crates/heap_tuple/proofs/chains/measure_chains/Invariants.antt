use Rattle.std.proofs.Common.{◌≡◌, ◌≤◌, [], length}
use Rattle.page_check.specs.LinePointers.{line_pointer_count}
use Rattle.heap_tuple.specs.Tuples.{step_of}
use Rattle.heap_tuple.specs.ChainLengths.{AreChainLengths, PassedAreKnown}
use Rattle.heap_tuple.proofs.LongestRoot.{first_roots, longest_among}
use Rattle.heap_tuple.proofs.chains.measure_chains.Given as goal

abbrev pub invariant-loop-index : goal.invariant-loop-index
invariant-loop-index l = record {
  lengths : length l.lengths ≡ line_pointer_count l.page;
  passed : length l.passed ≡ line_pointer_count l.page;
  empty : l.path.items ≡ [];
  known : AreChainLengths (step_of l.page l.block) l.lengths;
  marked : PassedAreKnown l.passed l.lengths;
  few : l.roots ≤ l.index;
  roots : l.roots ≡ length (first_roots l.page l.block l.index);
  longest : l.longest ≡ longest_among l.page l.block (first_roots l.page l.block l.index);
}
