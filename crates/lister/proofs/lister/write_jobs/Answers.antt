use Rattle.std.proofs.Common.{arith}
use Rattle.run_report.proofs.OutputsAppend.{written_then}
use Rattle.lister.proofs.JobTextsAppend.{next_done, next_stopped, all_listed, among_all}
use Rattle.lister.proofs.JobTextsAppend.{none_listed}
use Rattle.run_report.proofs.ErrorTextsAppend.{warns_also, warns_none, warns_then}
use Rattle.lister.proofs.lister.write_jobs.Goals as goal

pub loop-job-init : goal.loop-job-init
loop-job-init g c = record { lists = warns_none _ _ (none_listed _ _ _); later = omega arith }

pub loop-job-preserved : goal.loop-job-preserved
loop-job-preserved g c =
    let writes = c.write_job-outcome.ensures.writes.later in record {
      lists = warns_then _ _ _ _ _ _
          (λ v w first second. next_done c.args.jobs.now c.loop-job.job-index c.job-item.result
          _ _ _ _ _ _ _ v w c.loop-job-test.true c.job-item.is c.add_up-sums.ensures first second
          c.in-Done.is) c.loop-job.invariant.lists c.write_job-outcome.ensures.lists;
      later = omega (arith, c.loop-job.invariant.later);
    }

pub returns-in_default : goal.returns-in_default
returns-in_default g c = record {
  lists = warns_then _ _ _ _ _ _
      (λ v w first second. next_stopped c.args.jobs.now c.loop-job.job-index c.job-item.result
      _ _ _ _ _ _ _ v w c.loop-job-test.true c.job-item.is c.add_up-sums.ensures first second
      c.in_default.not-Done)
      c.loop-job.invariant.lists c.write_job-outcome.ensures.lists;
  writes = written_then _ _ _ _ c.loop-job.invariant.later c.write_job-outcome.ensures.writes;
  unread = among_all c.args.jobs.now c.loop-job.job-index _ c.job-item.result c.job-item.result
      c.loop-job-test.true c.job-item.is c.write_job-outcome.ensures.unread;
}

pub returns-clause-lists : goal.returns-clause-lists
returns-clause-lists g c =
    warns_also _ _ _ _
    (λ w listed. all_listed c.args.jobs.now c.loop-job.job-index _ _ _ _ w c.loop-job-test.false
    listed) c.loop-job.invariant.lists
