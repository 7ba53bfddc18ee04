use Rattle.std.proofs.Common.{◌∙◌, List, ℕ, ◌++◌, drop, ap, arith}
use Rattle.heap_scan.proofs.FixedPieces.{drop-put_chunk}
use Rattle.heap_scan.proofs.backward.put_short_number.Goals as goal

pub returns-clause-written : goal.returns-clause-written
returns-clause-written c =
    let number = c.padded_number-len.ensures in
    let rest = drop c.args.end c.args.buf.now in
    drop-put_chunk _ 8 _ _ _ number.size.0 c.requires.room c.requires.within (omega (arith, number.size.1))
    ∙ ap (λ (text : List ℕ). text ++ rest) number.text
