use Rattle.std.proofs.Common.{rules, arith, ◌+◌, ◌%◌, ◌^◌}
use Rattle.method_worker.proofs.StepsKeepClosingWord.{others}
use Rattle.method_worker.proofs.words.set_latch.Goals as goal

pub fetch_add-requires : goal.fetch_add-requires
fetch_add-requires c =
    (c.requires.same_table.0, search rules, others _ _ _ _ (λ n. (n + 1) % 2 ^ 64) (omega arith))
