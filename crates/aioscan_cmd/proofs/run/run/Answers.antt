use Rattle.std.proofs.Common.{refl}
use Rattle.run_report.proofs.RefusedRuns.{ran_unread}
use Rattle.aioscan_cmd.proofs.ScanCountsAtEnd.{uncounted}
use Rattle.run_report.proofs.ErrorTextsAppend.{warns_none}
use Rattle.aioscan_cmd.proofs.run.run.Goals as goal

pub returns-in-Err-Usage-clause-ran : goal.returns-in-Err-Usage-clause-ran
returns-in-Err-Usage-clause-ran g c =
    rw (c.without_reads.ensures, c.in-Err-Usage.ensures.err c.in-Err-Usage.field-0-is) (warns_none _ _ refl)

pub returns-in-Err-NoMemory-clause-ran : goal.returns-in-Err-NoMemory-clause-ran
returns-in-Err-NoMemory-clause-ran g c =
    rw c.without_reads-in-Err-NoMemory.ensures (warns_none _ _ (ran_unread _ _ _ _))

pub returns-in-Err-NoMemory-clause-counted : goal.returns-in-Err-NoMemory-clause-counted
returns-in-Err-NoMemory-clause-counted g c =
    rw c.without_reads-in-Err-NoMemory.ensures (uncounted _ _ _ _)
