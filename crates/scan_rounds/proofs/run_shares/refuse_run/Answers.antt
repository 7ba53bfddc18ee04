use Rattle.scan_rounds.proofs.BackendsRun.{refused_ran}
use Rattle.scan_rounds.proofs.run_shares.refuse_run.Goals as goal

pub returns-clause-ran : goal.returns-clause-ran
returns-clause-ran g c = λ unread.
    (let closed = c.close_queue.ensures in
    refused_ran _ _ _ _ _ _ _ _ _ _ unread c.requires.may.1 c.refuse_jobs.ensures.refused
    closed.disk_actors closed.backends closed.options closed.closed)
