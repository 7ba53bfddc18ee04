use Rattle.std.proofs.Common.{◌≡◌, ℕ, List, ◌<◌, slice_index}
use Rattle.page_check.specs.Checksum.{column_sum, columns_joined}
use Rattle.page_check.proofs.checksum.join.Given as goal

abbrev pub invariant-loop-column : goal.invariant-loop-column
invariant-loop-column l = (page : List ℕ)
    → ((k : ℕ) → k < 32 → slice_index l.sums k ≡ column_sum page k 64)
    → l.joined ≡ columns_joined page l.column
