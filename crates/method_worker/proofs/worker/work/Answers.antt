use Rattle.std.proofs.Common.{rules, ◌∙◌, refl, inl}
use Rattle.aio_word.specs.declared.Known.{Known}
use Rattle.aio_handle.proofs.ExecutionsCompose.{executes_then, executes_nothing}
use Rattle.aio_handle.proofs.ListsGrow.{appends-none}
use Rattle.method_worker.specs.WorkerSteps.{worker_state}
use Rattle.method_worker.proofs.WorkerStepsInOrder.{turns-then, turns-last}
use Rattle.method_worker.proofs.worker.work.Goals as goal

pub loop-preserved : goal.loop-preserved
loop-preserved g c =
    let p : Known = c.args.actor.now.known in
    let q : Known = c.loop.actor.known in
    let r : Known = c.turn.new.actor.known in
    let i = c.loop.invariant in
    let seat = c.turn.ensures.seat in
    let same = c.turn.ensures.same in
    let told = c.turn.ensures.told in
    record {
      can_next = tt;
      is_finite = tt;
      queue = (seat.0 ∙ i.queue.0, seat.1 ∙ i.queue.1);
      seat = (seat.0 ∙ i.seat.0, seat.1 ∙ i.seat.1, seat.2 ∙ i.seat.2);
      table = (same.0 ∙ i.table.0, same.1 ∙ i.table.1);
      same = (same.0 ∙ i.same.0, same.1 ∙ i.same.1, same.2 ∙ i.same.2);
      told = (told.0 ∙ i.told.0, told.1 ∙ i.told.1);
      takes = executes_then p q r _ _ _ _ _ _ i.takes c.turn.ensures.marks;
      works = turns-then g.W.World.handles c.args.queue.now.reopened
          (worker_state c.args.seat.now p) (worker_state c.loop.seat q)
          (worker_state c.turn.new.seat r)
          c.turn.result i.works c.turn.ensures.worker_step (search rules);
    }

pub loop-init : goal.loop-init
loop-init g c = record {
  can_next = tt;
  is_finite = tt;
  queue = c.requires.queue;
  seat = (refl, refl, refl);
  table = c.requires.table;
  same = (refl, refl, refl);
  told = c.requires.told;
  takes = executes_nothing c.args.actor.now.known c.args.actor.now.known _ _
      (appends-none c.args.actor.now.known);
  works = inl refl;
}

pub returns-in-Closed-clause-marks : goal.returns-in-Closed-clause-marks
returns-in-Closed-clause-marks g c =
    executes_then c.args.actor.now.known c.loop.actor.known c.turn.new.actor.known _ _ _ _ _ _
    c.loop.invariant.takes c.turn.ensures.marks

pub returns-in-Closed-clause-works_until_closed
    : goal.returns-in-Closed-clause-works_until_closed
returns-in-Closed-clause-works_until_closed g c =
    turns-last g.W.World.handles c.args.queue.now.reopened
    (worker_state c.args.seat.now c.args.actor.now.known)
    (worker_state c.loop.seat c.loop.actor.known)
    (worker_state c.turn.new.seat c.turn.new.actor.known) c.turn.result c.loop.invariant.works
    c.turn.ensures.worker_step (search rules)
