use Rattle.scan_rounds.proofs.rounds.list_job.Goals as goal

pub neighbouring_jobs-requires-clause-fresh : goal.neighbouring_jobs-requires-clause-fresh
neighbouring_jobs-requires-clause-fresh g c =
    (g.W.World.relations, rw c.from_mut-jobs.ensures.value c.requires.may.fresh)
