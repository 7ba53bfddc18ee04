use Rattle.std.proofs.Common.{◌≡◌, ℕ, ◌<◌, ◌≤◌, slice_index}
use Rattle.page_check.specs.Checksum.{sum_with_word, word_of}
use Rattle.page_check.proofs.checksum.add_row.Given as goal

abbrev pub invariant-loop-column : goal.invariant-loop-column
invariant-loop-column l = record {
  below : (k : ℕ) → k < l.column
      → slice_index l.sums k
      ≡ sum_with_word (slice_index l.initial.sums k) (word_of l.bytes l.row k);
  rest : (k : ℕ) → l.column ≤ k → slice_index l.sums k ≡ slice_index l.initial.sums k;
}
