use Rattle.std.proofs.Common.{◌∙◌, ap}
use Rattle.clap.specs.Words.{app_of, with_rule}
use Rattle.command_line.specs.Grammar.{flag_rule}
use Rattle.command_line.proofs.GrammarRulesAppend.{with_rules-more}
use Rattle.command_line.proofs.words.grammar.add_flags.Goals as goal

pub loop-name-preserved : goal.loop-name-preserved
loop-name-preserved c =
    with_rules-more (app_of c.args.command) (app_of c.loop-name.command)
    (app_of c.in_ok-command.command) (λ name. flag_rule name.now) c.args.names.now
    c.loop-name.name-index _ c.loop-name-test.true c.loop-name.invariant
    (c.in_ok-command.ensures.shape c.flag.ensures.local
    ∙ ap (with_rule (app_of c.loop-name.command)) c.flag.ensures.rule)
