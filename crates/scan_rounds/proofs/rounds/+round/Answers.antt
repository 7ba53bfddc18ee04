use Rattle.std.proofs.Common.{arith, rules}
use denote.Param.Send.{sendable}
use Rattle.scan_rounds.proofs.actor_jobs.JobsByPlace.{listed_beside, may_split, none_listed}
use Rattle.scan_rounds.proofs.rounds.+round.Goals as goal

pub list_beside-join_mut-requires-after_bounds : goal.list_beside-join_mut-requires-after_bounds
list_beside-join_mut-requires-after_bounds g t c κs within = (
  (
    (search sendable, c.requires.first),
    (search sendable, search sendable, search sendable, search sendable),
  ),
  (
    search (rules, c.decreases),
    (
      λ a is. is,
      (
        λ a is. is,
        (
          λ a is. is,
          (
            (search sendable, c.requires.others),
            (search sendable, search sendable, search sendable, search sendable),
          ),
        ),
      ),
    ),
  ),
)

pub list_round-returns-in_default : goal.list_round-returns-in_default
list_round-returns-in_default g t c = record {
  listed = none_listed _ _ _ _ c.args.backends.now c.args.jobs.now c.in_default.ensures.cases
      c.requires.may.backends;
}

pub list_round-list_job-requires-clause-may : goal.list_round-list_job-requires-clause-may
list_round-list_job-requires-clause-may g t c κs within =
    (may_split _ _ _ _ _ c.in-Some-split_first_mut.others.now _ c.in-Some.later.now
    (rw (c.in-Some.ensures.cases.0, c.in-Some-split_first_mut.ensures.cases.0) at c.requires.may)).0

pub list_round-returns-then-is_empty : goal.list_round-returns-then-is_empty
list_round-returns-then-is_empty g t c =
    let jobs = c.in-Some.ensures.cases.0 in
    let backends = c.in-Some-split_first_mut.ensures.cases.0 in record {
      listed = rw (jobs, backends) (listed_beside _ _ _ _ _ _ _ _ _ _ _ _ c.list_job.ensures.listed
          (none_listed _ _ _ _ _ c.in-Some.later.now (grind arith)
          (may_split _ _ _ _ _ _ _ _ (rw (jobs, backends) at c.requires.may)).1.backends));
    }

pub list_round-list_beside-requires-clause-first : goal.list_round-list_beside-requires-clause-first
list_round-list_beside-requires-clause-first g t c κs within =
    (may_split _ _ _ _ _ c.in-Some-split_first_mut.others.now _ c.in-Some.later.now
    (rw (c.in-Some.ensures.cases.0, c.in-Some-split_first_mut.ensures.cases.0) at c.requires.may)).0

pub list_round-list_beside-requires-clause-others : goal.list_round-list_beside-requires-clause-others
list_round-list_beside-requires-clause-others g t c κs within =
    (may_split _ _ _ _ c.in-Some-split_first_mut.backend.now _ c.in-Some.job.now _
    (rw (c.in-Some.ensures.cases.0, c.in-Some-split_first_mut.ensures.cases.0) at c.requires.may)).1

pub list_round-returns : goal.list_round-returns
list_round-returns g t c = record {
  listed = rw (c.in-Some.ensures.cases.0, c.in-Some-split_first_mut.ensures.cases.0)
      (listed_beside _ _ _ _ _ _ _ _ _ _ _ _ c.list_beside.ensures.first
      c.list_beside.ensures.others);
}
