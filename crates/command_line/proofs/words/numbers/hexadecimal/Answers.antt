use Rattle.std.proofs.Common.{◌≡◌, true}
use Rattle.command_line.specs.Numbers.{is_hexadecimal}
use Rattle.command_line.proofs.WordValues.{hexadecimal_parsed}
use Rattle.command_line.proofs.words.numbers.hexadecimal.Goals as goal

pub returns-in-Err : goal.returns-in-Err
returns-in-Err c =
    let word : is_hexadecimal c.args.word.now ≡ true = cc in
    let parsed = hexadecimal_parsed c.args.word.now c.from_str_radix.result
    c.from_str_radix.ensures.value word in
    absurd (cc)
