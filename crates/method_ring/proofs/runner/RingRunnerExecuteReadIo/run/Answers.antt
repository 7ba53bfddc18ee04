use Rattle.std.proofs.Common.{rules, ap, subst}
use Rattle.method_worker.specs.QueueViews.{SeatView}
use Rattle.method_ring.specs.RingRunner.{PopsReferences, all_end_marks}
use Rattle.method_ring.proofs.NumberedLookup.{if-some-then}
use Rattle.method_ring.proofs.PoppedReferences.{pops-later}
use Rattle.method_ring.proofs.GroupCompletion.{takes-group}
use Rattle.method_ring.proofs.runner.RingRunnerExecuteReadIo.run.Goals as goal

pub returns-clause-pops : goal.returns-clause-pops
returns-clause-pops g c =
    subst (λ (s : SeatView). PopsReferences 7 s c.gather.new.seat c.args.actor.now.known
    c.finish.new.actor.known) (ap (λ z. z.seat) c.self.view_is)
    (pops-later 7 (all_end_marks c.finish.ensures.finishes.ended_records) c.self.inside.seat
    c.gather.new.seat c.args.actor.now.known c.gather.new.actor.known c.finish.new.actor.known
    c.gather.ensures.pops c.finish.ensures.finishes.marks_grow)

pub returns-clause-group : goal.returns-clause-group
returns-clause-group g c = search rules

pub returns-clause-marks : goal.returns-clause-marks
returns-clause-marks g c =
    if-some-then c.args.claimed.now _ _
    (λ t k. takes-group g.W.World.told t c.args.actor.now.known c.finish.new.actor.known
    _ _ _ _ _ _ k)
    (returns-clause-group g c)
