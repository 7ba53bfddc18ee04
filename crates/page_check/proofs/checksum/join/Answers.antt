use Rattle.std.proofs.Common.{◌≡◌, ℕ, List, ◌+◌, suc, refl, arith}
use Rattle.std.specs.Prelude.{bit_xor}
use Rattle.page_check.specs.Checksum.{sum_with_word, column_sum, whole_sum, columns_joined}
use Rattle.page_check.proofs.checksum.join.Goals as goal

joined-more : (page : List ℕ) (column : ℕ)
    → columns_joined page (column + 1)
    ≡ bit_xor (columns_joined page column)
    (sum_with_word (sum_with_word (column_sum page column 64) 0) 0)
unfolding columns_joined whole_sum
joined-more page column =
    let more : column + 1 ≡ suc column = omega arith in
    rw more refl

pub loop-column-init : goal.loop-column-init
unfolding columns_joined
loop-column-init c = λ page same. refl

pub loop-column-preserved : goal.loop-column-preserved
loop-column-preserved c = λ page same.
    let before = c.loop-column.invariant page same in
    let here = same c.loop-column.column (omega arith) in
    rw (joined-more page c.loop-column.column, ← before, ← here) (cc)
