use Rattle.std.proofs.Common.{List, subst, arith, refl}
use Rattle.std.specs.List.{All}
use Rattle.std.proofs.lemmas.List.Elements.{All-head, All-tail}
use Rattle.scan_jobs.specs.Jobs.{IsNewJob}
use Rattle.scan_jobs.specs.declared.job.Job.{Job}
use Rattle.scan_jobs.proofs.StreamsOfJobs.{stream_of_following, stream_of_one}
use Rattle.scan_jobs.proofs.neighbours.neighbouring_jobs.Goals as goal
use Rattle.scan_jobs.proofs.neighbours.neighbouring_jobs.Goals.{in-Some-by_map, in-None}

pub following-requires-clause-fresh : goal.following-requires-clause-fresh
following-requires-clause-fresh c =
    let both = c.in-Some.ensures.cases in
    let (relations, fresh) = c.requires.fresh in
    let all = subst (λ (js : List Job). All (IsNewJob relations) js) both.0 fresh in
    (relations, All-tail (IsNewJob relations) c.in-Some.job.now c.in-Some.later.now all)

pub returns-clause-stream : goal.returns-clause-stream
returns-clause-stream c =
    let both = c.in-Some.ensures.cases in
    let (relations, fresh) = c.requires.fresh in
    let all = subst (λ (js : List Job). All (IsNewJob relations) js) both.0 fresh in
    let here = All-head (IsNewJob relations) c.in-Some.job.now c.in-Some.later.now all in
    rw both.0 (elim c.match-by_map.branch [
      | in-Some-by_map w ↦ rw w.many-is (stream_of_one c.args.by_map relations c.in-Some.job.now
          c.in-Some.later.now here _ refl)
      | in-None w ↦ rw (w.many-is, w.in-None.is) (stream_of_following relations
          w.following.result.1 w.following.result.0 c.in-Some.job.now c.in-Some.later.now here
          w.following.ensures.many w.following.ensures.entries
          (omega (arith, w.following.ensures.few), omega (arith, w.following.ensures.few, here.few))
          w.following.ensures.within _ refl)
    ])
