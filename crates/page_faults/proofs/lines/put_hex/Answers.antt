use Rattle.std.proofs.Common.{◌≡◌, ◌+◌, ◌-◌, ◌/◌, ◌∷◌, ◌∙◌, ℕ, List, drop, true, arith, sym, ap, length, ◌<◌, rules}
use Rattle.std.specs.Fmt.{digits_onto}
use Rattle.std.proofs.lemmas.List.{drop-set}
use Rattle.std.proofs.Math.ListN.{set}
use Rattle.page_faults.proofs.HexDigits.{hex-append, digit_last, digit_more}
use Rattle.page_faults.proofs.lines.put_hex.Goals as goal

pub loop-count-init : goal.loop-count-init
loop-count-init c =
    let none : c.args.end - 0 ≡ c.args.end = omega arith in
    record {
      size = search rules;
      written = ap (λ (n : ℕ). digits_onto 8 16 true c.args.number (drop n c.args.buf.now)) none
          ∙ hex-append c.args.number (drop c.args.end c.args.buf.now);
    }

pub returns-then-rest-eq0-clause-written : goal.returns-then-rest-eq0-clause-written
returns-then-rest-eq0-clause-written c =
    let buf = c.loop-count.buf in
    let count = c.loop-count.count in
    let at = c.args.end - 1 - count in
    let next : at + 1 ≡ c.args.end - count = omega (arith, c.requires.room, c.loop-count-test.true) in
    let below : at < length buf =
    omega (arith, c.requires.room, c.requires.within, c.loop-count-test.true, c.loop-count.invariant.size) in
    drop-set buf at c.hex_digit.result below
    ∙ ap (λ (n : ℕ). c.hex_digit.result ∷ drop n buf) next
    ∙ ap (λ (digit : ℕ). digit ∷ drop (c.args.end - count) buf) c.hex_digit.ensures
    ∙ digit_last count c.loop-count.rest (drop (c.args.end - count) buf) c.loop-count-test.true
    c.if-rest-eq0.true
    ∙ c.loop-count.invariant.written

pub loop-count-preserved : goal.loop-count-preserved
loop-count-preserved c =
    let buf = c.loop-count.buf in
    let count = c.loop-count.count in
    let rest = c.loop-count.rest in
    let at = c.args.end - 1 - count in
    let here : c.args.end - (count + 1) ≡ at = omega arith in
    let next : at + 1 ≡ c.args.end - count = omega (arith, c.requires.room, c.loop-count-test.true) in
    let below : at < length buf =
    omega (arith, c.requires.room, c.requires.within, c.loop-count-test.true, c.loop-count.invariant.size) in
    let text = ap (λ (n : ℕ). drop n (set buf at c.hex_digit.result)) here
    ∙ drop-set buf at c.hex_digit.result below
    ∙ ap (λ (n : ℕ). c.hex_digit.result ∷ drop n buf) next
    ∙ ap (λ (digit : ℕ). digit ∷ drop (c.args.end - count) buf) c.hex_digit.ensures in
    record {
      size = search rules;
      written = ap (λ (bytes : List ℕ). digits_onto (8 - (count + 1)) 16 true (rest / 16) bytes) text
          ∙ digit_more count rest (drop (c.args.end - count) buf) c.loop-count-test.true
          c.if-rest-eq0.false
          ∙ c.loop-count.invariant.written;
    }

pub returns-clause-written : goal.returns-clause-written
returns-clause-written c =
    let buf = c.loop-count.buf in
    let all : c.loop-count.count ≡ 8 = omega (arith, c.loop-count-test.false, c.loop-count.auto.count-end) in
    sym (ap (λ (n : ℕ). digits_onto (8 - n) 16 true c.loop-count.rest (drop (c.args.end - n) buf)) all)
    ∙ c.loop-count.invariant.written
