use Rattle.std.proofs.Common.{◌<◌, ◌≤◌, ◌^◌, ℕ, length, decimal, arith}
use Rattle.std.proofs.lemmas.Fmt.{length-decimal-le}
use Rattle.heap_scan.proofs.backward.put_number.Goals as goal

at_most_ten : (n : ℕ) → n < 2 ^ 32 → length (decimal n) ≤ 10
at_most_ten n below = length-decimal-le 10 n (omega arith) (omega arith) (omega arith)

at_most_five : (n : ℕ) → n < 100000 → length (decimal n) ≤ 5
at_most_five n below = length-decimal-le 5 n (omega arith) (omega arith) (omega arith)

pub returns-then-number-lt10000-clause-long : goal.returns-then-number-lt10000-clause-long
returns-then-number-lt10000-clause-long c = at_most_ten c.args.number (omega arith)

pub returns-then-number-lt10000-clause-short : goal.returns-then-number-lt10000-clause-short
returns-then-number-lt10000-clause-short c = at_most_five c.args.number

pub returns-then-end-lt16-clause-long : goal.returns-then-end-lt16-clause-long
returns-then-end-lt16-clause-long c = at_most_ten c.args.number (omega arith)

pub returns-then-end-lt16-clause-short : goal.returns-then-end-lt16-clause-short
returns-then-end-lt16-clause-short c = at_most_five c.args.number

pub returns-else-end-lt16-clause-long : goal.returns-else-end-lt16-clause-long
returns-else-end-lt16-clause-long c = at_most_ten c.args.number (omega arith)

pub returns-else-end-lt16-clause-short : goal.returns-else-end-lt16-clause-short
returns-else-end-lt16-clause-short c = at_most_five c.args.number
