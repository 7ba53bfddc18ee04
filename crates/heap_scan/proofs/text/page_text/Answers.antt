use Rattle.std.proofs.Common.{arith}
use Rattle.heap_scan.proofs.LineCounts.{new_is_one_line, lines_of_valid}
use Rattle.heap_scan.proofs.FirstLines.{telling_of_valid}
use Rattle.heap_scan.proofs.text.page_text.Goals as goal

pub returns-in-Ok-clause-new : goal.returns-in-Ok-clause-new
returns-in-Ok-clause-new c = new_is_one_line _ _ _

pub returns-in-Ok-clause-lines : goal.returns-in-Ok-clause-lines
returns-in-Ok-clause-lines c = lines_of_valid _ _ _ c.requires

pub returns-in-Ok-clause-first_line : goal.returns-in-Ok-clause-first_line
returns-in-Ok-clause-first_line c = telling_of_valid _ _ _ (omega arith) (omega arith) c.requires

pub returns-in-Err-clause-new : goal.returns-in-Err-clause-new
returns-in-Err-clause-new c = new_is_one_line _ _ _

pub returns-in-Err-clause-lines : goal.returns-in-Err-clause-lines
returns-in-Err-clause-lines c = lines_of_valid _ _ _ c.requires

pub returns-in-Err-clause-first_line : goal.returns-in-Err-clause-first_line
returns-in-Err-clause-first_line c = telling_of_valid _ _ _ (omega arith) (omega arith) c.requires
