use Rattle.std.proofs.Common.{◌++◌, arith, map, Bool, subst}
use Rattle.std.specs.Prelude.{string_bytes}
use Rattle.run_report.specs.ErrorLine.{AppendsErrorText, error_stream, totals_line}
use Rattle.run_report.specs.Outcomes.{outcome_line}
use Rattle.command_line.specs.Words.{command_of}
use Rattle.run_report.proofs.ErrorTextsAppend.{tells_then, told_in_all}
use Rattle.run_report.proofs.TopClauses.{told_writes, told_exact, told_complete, any_untouched}
use Rattle.run_report.proofs.TopClauses.{told_warned}
use Rattle.aioscan_cmd.proofs.run.aioscan.Goals as goal

pub returns-clause-ran : goal.returns-clause-ran
returns-clause-ran g c =
    let ran = c.run-ended.ensures.ran in (ran.warnings, ran.warnings_hold)

pub returns-clause-writes : goal.returns-clause-writes
returns-clause-writes g c =
    told_writes (g.S.Shelf.told c.args.shelf.now) _ (command_of (map string_bytes c.args.words.now))
    _ _ c.run-ended.result.end.outcome _ c.run-ended.ensures.ran.warnings_hold

pub returns-clause-exact : goal.returns-clause-exact
returns-clause-exact g c =
    told_exact (g.S.Shelf.told c.args.shelf.now) _ (command_of (map string_bytes c.args.words.now))
    _ _ c.run-ended.result.end.outcome _ c.run-ended.ensures.ran.warnings_hold

pub returns-clause-complete : goal.returns-clause-complete
returns-clause-complete g c =
    told_complete (g.S.Shelf.told c.args.shelf.now) _ (command_of (map string_bytes c.args.words.now))
    _ _ c.run-ended.result.end.outcome _ c.run-ended.ensures.ran.warnings_hold _ _ _ _
    c.run-ended.ensures.usage c.run-ended.ensures.causes

pub returns-clause-output_same : goal.returns-clause-output_same
returns-clause-output_same g c =
    any_untouched (g.S.Shelf.told c.args.shelf.now) _ (command_of (map string_bytes c.args.words.now))
    _ _ c.run-ended.result.end.outcome _ (λ none. (c.run-ended.ensures.unread none).0)
    c.run-ended.ensures.ran.warnings_hold

pub returns-clause-error_output : goal.returns-clause-error_output
returns-clause-error_output g c =
    let end = c.run-ended.result.end in
    let ran = c.run-ended.ensures.ran in
    let P : Bool → Type 0 = λ shows. AppendsErrorText
    (outcome_line end.outcome ++ totals_line shows end.numbers)
    (error_stream end.line (g.E.Sink.written c.run-ended.new.err)
    (g.E.Sink.faults c.run-ended.new.err))
    (error_stream c.write_end-line.result (g.E.Sink.written c.write_end-line.new.err)
    (g.E.Sink.faults c.write_end-line.new.err)) in
    let lines = subst P c.run-ended.ensures.shows c.write_end-line.ensures in record {
      warnings = ran.warnings;
      told = told_in_all _ _ _ _ _ _ (tells_then _ _ _ _ _ ran.tells lines);
      ran = ran.warnings_hold;
      warnings_are = told_warned (g.S.Shelf.told c.args.shelf.now) _
          (command_of (map string_bytes c.args.words.now)) _ _ end.outcome ran.warnings ran.warnings_hold;
    }

pub returns-clause-later : goal.returns-clause-later
returns-clause-later g c =
    let first = c.run-ended.ensures.ran.tells.later in
    let second = c.write_end-line.ensures.later in omega arith
