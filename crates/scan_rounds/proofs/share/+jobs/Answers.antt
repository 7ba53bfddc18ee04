use Rattle.std.proofs.Common.{sym, arith}
use Rattle.scan_rounds.proofs.actor_jobs.JobsInSequence.{may_later, none_done, some_then}
use Rattle.scan_rounds.proofs.share.+jobs.Goals as goal

pub returns-then-is_empty : goal.returns-then-is_empty
returns-then-is_empty g t c = record {
  done = none_done _ _ _ _ c.args.backend.now c.args.jobs.now
      (grind arith) c.requires.may.is;
}

pub do_jobs-requires-clause-may : goal.do_jobs-requires-clause-may
do_jobs-requires-clause-may g t c κs within =
    may_later _ _ _ _ c.args.backend.now c.list.new.self c.split_at_mut-first.result.0.now
    c.list.new.jobs c.list.ensures.listed c.split_at_mut-first.result.1.now
    (rw (sym c.split_at_mut-first.ensures.value) c.requires.may)

pub returns : goal.returns
returns g t c = record {
  done = rw (c.split_at_mut-first.ensures.value, sym c.neighbouring_jobs-many.ensures.by_map)
      (some_then _ _ _ _ c.args.backend.now c.list.new.self
      c.split_at_mut-first.result.0.now c.list.new.jobs c.list.ensures.listed _ _ _
      (rw c.neighbouring_jobs-many.ensures.by_map c.do_jobs.ensures.done));
}
