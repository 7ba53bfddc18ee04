use Rattle.std.proofs.Common.{◌≡◌, ◌∙◌, ◌+◌, ◌-◌, ℕ, List, length, drop, set, decimal, ap, arith, refl}
use Rattle.std.proofs.lemmas.List.{drop-set-add, set_at}
use Rattle.heap_scan.proofs.backward.put_short_number_newline.Goals as goal

pub returns-clause-written : goal.returns-clause-written
returns-clause-written c =
    let text = decimal c.args.number in
    let start = c.put_short_number_blank-start.result in
    let buf = c.put_short_number_blank-start.new.buf in
    let last : c.args.end - 1 ≡ start + length text =
    omega (arith, c.put_short_number_blank-start.ensures.start) in
    ap (λ (n : ℕ). drop start (set buf n 10)) last ∙ drop-set-add start buf (length text) 10
    ∙ ap (λ (behind : List ℕ). set behind (length text) 10) c.put_short_number_blank-start.ensures.written
    ∙ set_at text 32 (drop c.args.end c.args.buf.now) 10 (length text) refl
