use Rattle.std.proofs.Common.{◌≡◌, true}
use Rattle.command_line.specs.Numbers.{is_number}
use Rattle.command_line.proofs.WordValues.{number_within-none}
use Rattle.command_line.proofs.words.numbers.number_within.Goals as goal

pub returns-in_default-clause-number : goal.returns-in_default-clause-number
returns-in_default-clause-number c =
    let number : is_number c.args.digits c.args.word.now ≡ true = cc in
    let none = number_within-none c.args.digits c.args.least c.args.most c.args.word.now
    c.parse.result c.parse.ensures.value.0 (λ parsed. absurd (cc)) c.ranges.most.fits number in
    cc
