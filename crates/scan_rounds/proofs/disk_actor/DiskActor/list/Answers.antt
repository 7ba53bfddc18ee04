use Rattle.std.proofs.Common.{sym, ap, ◌∙◌, refl}
use Rattle.scan_settings.specs.PageFormats.{page_format}
use Rattle.scan_rounds.proofs.actor_jobs.ActorsListJobs.{by_text}
use Rattle.scan_jobs.proofs.JobsListed.{new_jobs_have_none}
use Rattle.scan_rounds.proofs.disk_actor.DiskActor.list.Goals as goal

pub read-ending-requires-clause-held : goal.read-ending-requires-clause-held
read-ending-requires-clause-held g c κs within = (
  refl,
  new_jobs_have_none (page_format c.args.page_text) _ c.args.jobs.now c.requires.may.fresh,
)

pub returns-clause-listed : goal.returns-clause-listed
returns-clause-listed g c =
    let kept = c.read-ending.ensures.kept in
    let jobs = c.jobs-2-1.given.1.0 (ap (λ k. k.0) (sym kept)) ∙ c.end_jobs.ensures in
    rw jobs (by_text _ _ _ _ _ _ _ _ c.args.blocks c.args.jobs.now c.read-ending.new.consumer.jobs.now
    _ c.read-ending.result c.requires.may.stream c.requires.may.fresh (ap (λ k. k.2) kept)
    (rw (ap (λ k. k.1) (sym kept)) c.read-ending.ensures.read))
