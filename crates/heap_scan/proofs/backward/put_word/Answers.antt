use Rattle.std.proofs.Common.{ℕ, ◌∙◌, List, ◌++◌, drop, ap, arith, append_assoc}
use Rattle.heap_scan.proofs.FixedPieces.{drop-put_chunk}
use Rattle.heap_scan.proofs.backward.put_word.Goals as goal

pub returns-clause-written : goal.returns-clause-written
returns-clause-written c =
    let word = c.padded_word-len.ensures in
    let rest = drop c.args.end c.args.buf.now in
    drop-put_chunk _ 16 _ _ _ word.size.0 c.requires.room c.requires.within (omega (arith, word.size.1))
    ∙ ap (λ (text : List ℕ). text ++ rest) word.word ∙ simp append_assoc
