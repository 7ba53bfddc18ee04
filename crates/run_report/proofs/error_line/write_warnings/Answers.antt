use Rattle.run_report.proofs.ErrorTextsAppend.{tells_cut, tells_written}
use Rattle.run_report.proofs.error_line.write_warnings.Goals as goal

pub returns-in-Whole : goal.returns-in-Whole
returns-in-Whole g c =
    tells_written _ _ _ _ _ _ _ c.in-Whole.is c.write_text.ensures.later c.write_text.ensures.told

pub returns-in_default : goal.returns-in_default
returns-in_default g c = tells_cut _ _ _ _ c.in_default.not-Whole
