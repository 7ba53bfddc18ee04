use Rattle.std.proofs.Common.{refl, arith}
use Rattle.std.proofs.lemmas.Fmt.{length-decimal-le}
use Rattle.heap_scan.proofs.SmallNumbers.{table-entry}
use Rattle.heap_scan.proofs.backward.padded_number_blank.Goals as goal

pub returns-clause-size : goal.returns-clause-size
returns-clause-size c =
    let n = c.args.number in
    let short = length-decimal-le 4 n (omega arith) (omega arith) (omega arith) in
    (refl, omega (arith, short, (table-entry n c.requires).len))

pub returns-clause-len : goal.returns-clause-len
returns-clause-len c = (table-entry c.args.number c.requires).len

pub returns-clause-text : goal.returns-clause-text
returns-clause-text c = (table-entry c.args.number c.requires).text
