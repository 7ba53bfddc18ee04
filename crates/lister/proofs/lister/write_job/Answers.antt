use Rattle.std.proofs.Common.{rules}
use Rattle.lister.proofs.JobTextOutput.{job_written, job_unwritten, job_out_of_memory}
use Rattle.lister.proofs.JobTextOutput.{one_unread, stopped_by_job}
use Rattle.run_report.proofs.ErrorTextsAppend.{warns_none}
use Rattle.lister.proofs.lister.write_job.Goals as goal

pub returns-in-Ok-clause-lists : goal.returns-in-Ok-clause-lists
returns-in-Ok-clause-lists g c = record {
  warnings = c.args.job.now.warnings.items;
  tells = c.end_job.ensures.told;
  warnings_hold = job_written c.args.job.now _ _ _ c.end_job.ensures.ended (search rules);
}

pub returns-in-Ok-clause-writes : goal.returns-in-Ok-clause-writes
returns-in-Ok-clause-writes g c =
    stopped_by_job c.args.job.now _ _ _ c.end_job.ensures.ended (search rules)

pub returns-in-Ok-clause-unread : goal.returns-in-Ok-clause-unread
returns-in-Ok-clause-unread g c = one_unread c.args.job.now _ c.end_job.ensures.ended

pub returns-in-Err-Device-clause-lists : goal.returns-in-Err-Device-clause-lists
returns-in-Err-Device-clause-lists g c =
    warns_none _ _ (job_unwritten c.args.job.now _ _
    (search rules) (search rules))

pub returns-in-Err-Memory-clause-lists : goal.returns-in-Err-Memory-clause-lists
returns-in-Err-Memory-clause-lists g c =
    warns_none _ _ (job_out_of_memory c.args.job.now _ _
    (search rules) (search rules))
