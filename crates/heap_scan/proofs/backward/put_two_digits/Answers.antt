use Rattle.std.proofs.Common.{◌≡◌, ◌+◌, ◌-◌, ◌++◌, ℕ, List, length, drop, decimal, ap, sym, ◌∙◌, arith}
use Rattle.std.proofs.Common.{drop-drop}
use Rattle.heap_scan.proofs.NumbersByPairs.{hundred_more}
use Rattle.heap_scan.proofs.backward.put_two_digits.Goals as goal

pub returns-clause-written : goal.returns-clause-written
returns-clause-written c =
    let made = c.put_short_number.ensures in
    let r = c.put_short_number.result in
    let now = c.put_short_number.new.buf in
    let rest = drop c.args.end c.args.buf.now in
    let more = hundred_more c.args.number c.requires.short in
    let three : length (decimal (100 + c.args.number)) ≡ 3 = ap length more in
    let at : c.args.end - 2 ≡ r + 1 = omega (arith, made.start) in
    ap (λ (n : ℕ). drop n now) at ∙ sym (drop-drop 1 r now) ∙ ap (drop 1) made.written
    ∙ ap (λ (ds : List ℕ). drop 1 (ds ++ rest)) more
