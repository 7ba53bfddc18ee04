use Rattle.std.proofs.Common.{◌≡◌, length, rules, arith}
use Rattle.page_faults.specs.Faults.{faults_of}
use Rattle.page_faults.proofs.FaultCounts.{few_faults}
use Rattle.page_faults.proofs.text.faults_text.Goals as goal

pub returns-clause-few : goal.returns-clause-few
returns-clause-few c =
    let all = faults_of c.args.options.now c.args.block c.args.page.now in
    let count : c.len.result ≡ length all = search rules in
    omega (arith, count, few_faults c.args.options.now c.args.block c.args.page.now)
