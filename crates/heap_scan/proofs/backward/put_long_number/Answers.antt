use Rattle.std.proofs.Common.{◌/◌, arith}
use Rattle.itoa.proofs.Decimal.{length_four}
use Rattle.heap_scan.proofs.backward.put_long_number.Goals as goal

pub returns-then-front-lt10000-clause-start : goal.returns-then-front-lt10000-clause-start
returns-then-front-lt10000-clause-start c =
    omega (arith, length_four c.args.number c.requires.long (omega arith))

pub returns-clause-start : goal.returns-clause-start
returns-clause-start c =
    omega (
      arith,
      length_four c.args.number c.requires.long (omega arith),
      length_four (c.args.number / 10000) (omega (arith, c.if-front-lt10000.false)) (omega arith),
    )
