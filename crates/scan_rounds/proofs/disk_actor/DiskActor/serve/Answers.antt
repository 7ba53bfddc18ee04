use Rattle.std.proofs.Common.{rules, refl}
use Rattle.scan_rounds.proofs.WorkersServe.{rests_worked}
use Rattle.scan_rounds.proofs.disk_actor.DiskActor.serve.Goals as goal

pub returns-clause-disk_actor : goal.returns-clause-disk_actor
returns-clause-disk_actor g c = record {
  disk = c.work.new.runner.disk;
  held = refl;
  tells = search rules;
  of = search rules;
  rest = rests_worked _ _ _ _ _ _ c.requires.disk_actor.rest c.work.ensures.marks;
}
