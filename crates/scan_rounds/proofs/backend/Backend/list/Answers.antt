use Rattle.scan_rounds.proofs.actor_jobs.ActorsListJobs.{may_list}
use Rattle.scan_rounds.proofs.backend.Backend.list.Goals as goal

pub list-requires-clause-may : goal.list-requires-clause-may
list-requires-clause-may g c κs within =
    may_list _ _ _ _ c.args.self.now c.args.blocks c.args.jobs.now c.requires.may
    c.requires.stream

pub list-requires-in-None-clause-may : goal.list-requires-in-None-clause-may
list-requires-in-None-clause-may g c κs within =
    may_list _ _ _ _ c.args.self.now c.args.blocks c.args.jobs.now c.requires.may
    c.requires.stream
