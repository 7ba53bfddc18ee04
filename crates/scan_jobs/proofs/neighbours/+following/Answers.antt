use Rattle.std.proofs.Common.{List, subst, arith}
use Rattle.std.specs.List.{All}
use Rattle.std.proofs.lemmas.List.Elements.{All-head, All-tail}
use Rattle.scan_jobs.specs.Jobs.{IsNewJob}
use Rattle.scan_jobs.specs.declared.job.Job.{Job}
use Rattle.scan_jobs.proofs.StreamsOfJobs.{job_and_following}
use Rattle.scan_jobs.proofs.neighbours.+following.Goals as goal

pub following-many-requires : goal.following-many-requires
following-many-requires t c =
    let both = c.in-Some.ensures.cases in
    let (relations, fresh) = c.requires.fresh in
    let all = subst (λ (js : List Job). All (IsNewJob relations) js) both.0 fresh in
    let here = All-head (IsNewJob relations) c.in-Some.job.now c.in-Some.later.now all in (
      omega (arith, both.1),
      (
        (relations, All-tail (IsNewJob relations) c.in-Some.job.now c.in-Some.later.now all),
        omega (arith, here.within, c.if-job-next.false),
      ),
    )

pub returns-clause-entries : goal.returns-clause-entries
returns-clause-entries t c =
    let both = c.in-Some.ensures.cases in
    rw both.0 (job_and_following c.args.relation c.args.next c.following-many.result.1
    c.following-many.result.0 c.in-Some.job.now c.in-Some.later.now c.if-job-relation.false
    c.if-job-next.false c.following-many.ensures.entries)
