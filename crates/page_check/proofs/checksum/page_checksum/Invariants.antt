use Rattle.std.proofs.Common.{◌≡◌, ℕ, ◌<◌, slice_index}
use Rattle.page_check.specs.Checksum.{column_sum, without_checksum}
use Rattle.page_check.proofs.checksum.page_checksum.Given as goal

abbrev pub invariant-loop-row : goal.invariant-loop-row
invariant-loop-row l =
    (k : ℕ) → k < 32 → slice_index l.sums k ≡ column_sum (without_checksum l.page) k l.row
