use Rattle.std.proofs.Common.{◌++◌, Bool, subst, sym}
use Rattle.run_report.specs.ErrorLine.{IsToldOnErr, totals_line}
use Rattle.run_report.specs.Outcomes.{outcome_line}
use Rattle.run_report.specs.declared.report.Line.{Line}
use Rattle.run_report.proofs.ErrorTextsAppend.{told_cut, told_then, shown}
use Rattle.run_report.proofs.error_line.write_lines.Goals as goal

pub returns-in-Whole-clause-told : goal.returns-in-Whole-clause-told
returns-in-Whole-clause-told g c =
    let P : Bool → Type 0 = λ shows. IsToldOnErr
    (outcome_line c.args.ended.end.outcome ++ totals_line shows c.args.ended.end.numbers)
    c.write_totals.result (g.E.Sink.written c.args.err.now)
    (g.E.Sink.written c.write_totals.new.err) (g.E.Sink.faults c.args.err.now)
    (g.E.Sink.faults c.write_totals.new.err) in
    let Q : Line → Type 0 = λ line. IsToldOnErr (outcome_line c.args.ended.end.outcome) line
    (g.E.Sink.written c.args.err.now) (g.E.Sink.written c.write_line-line.new.err)
    (g.E.Sink.faults c.args.err.now) (g.E.Sink.faults c.write_line-line.new.err) in
    let shows = shown c.args.ended.shows_totals c.if-not-ended.false in
    subst P (sym shows)
    (told_then _ _ _ _ _ _ _ _ _ c.write_line-line.ensures.later
    (subst Q c.in-Whole.is c.write_line-line.ensures.told) c.write_totals.ensures.told)

pub returns-in_default : goal.returns-in_default
returns-in_default g c = record {
  told = told_cut _ _ _ _ _ _ _ c.in_default.not-Whole c.write_line-line.ensures.told;
  later = c.write_line-line.ensures.later;
}
