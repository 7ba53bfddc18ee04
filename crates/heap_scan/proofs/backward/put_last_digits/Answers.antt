use Rattle.std.proofs.Common.{◌++◌, ◌∷◌, ◌+◌, ◌/◌, ◌%◌, List, ℕ, drop, decimal, ap, ◌∙◌, arith}
use Rattle.heap_scan.proofs.NumbersByPairs.{behind_front}
use Rattle.heap_scan.proofs.backward.put_last_digits.Goals as goal

pub returns-clause-written : goal.returns-clause-written
returns-clause-written c =
    let n = c.args.number in
    let last = c.put_two_digits-at.ensures.written in
    let before = c.put_two_digits.ensures.written in
    ap (λ (text : List ℕ). decimal (n / 10000) ++ text)
    (before ∙ ap (λ (text : List ℕ). (48 + n / 100 % 100 / 10) ∷ (48 + n / 100 % 100 % 10) ∷ text) last)
    ∙ behind_front n (drop c.args.end c.args.buf.now) c.requires.long (omega arith)
