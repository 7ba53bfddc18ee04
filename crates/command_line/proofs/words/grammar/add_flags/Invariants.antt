use Rattle.std.proofs.Common.{◌≡◌, map, take}
use Rattle.clap.specs.Words.{app_of}
use Rattle.command_line.specs.Grammar.{flag_rule, with_rules}
use Rattle.command_line.proofs.words.grammar.add_flags.Given as goal

abbrev pub invariant-loop-name : goal.invariant-loop-name
invariant-loop-name l =
    let rules = map (λ name. flag_rule name.now) (take l.name-index l.names) in
    app_of l.command ≡ with_rules (app_of l.fn.command) rules
