use Rattle.std.proofs.Common.{refl, rules, ◌∙◌}
use Rattle.lister.specs.ListerLaws.{listing_kept}
use Rattle.lister.proofs.ListerJobsCompose.{cuts_before, jobs_written}
use Rattle.lister.proofs.lister.ListerJobSource.finish_jobs.Goals as goal

pub returns-in-Done-clause-follows : goal.returns-in-Done-clause-follows
returns-in-Done-clause-follows g c = λ was asked later gives answered.
    jobs_written g.W.World.told g.O.Sink g.E.Sink was c.args.self.now _ asked later
    c.args.jobs.now gives answered c.in-Done.is refl refl refl refl refl
    c.write_jobs-outcome.ensures.lists c.write_jobs-outcome.ensures.writes

pub returns-in-Done-clause-in_vain : goal.returns-in-Done-clause-in_vain
returns-in-Done-clause-in_vain g c = λ stops next later gives.
    listing_kept g.W.World.told g.O.Sink g.E.Sink next _ later gives
    (λ done. absurd (search rules))

pub returns-in_default-clause-follows : goal.returns-in_default-clause-follows
returns-in_default-clause-follows g c = λ was asked later gives answered.
    (let split = cuts_before was c.args.self.now asked later gives in (
      split.0,
      listing_kept g.W.World.told g.O.Sink g.E.Sink was split.0 asked split.1
          (λ done. absurd (c.in_default.not-Done (split.2.outcome ∙ done))),
      split.2,
    ))

pub returns-in_default-clause-in_vain : goal.returns-in_default-clause-in_vain
returns-in_default-clause-in_vain g c = λ stops next later gives.
    listing_kept g.W.World.told g.O.Sink g.E.Sink next c.args.self.now later gives
    (λ done. absurd (c.in_default.not-Done done))
