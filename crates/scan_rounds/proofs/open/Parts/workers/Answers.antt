use Rattle.std.proofs.Common.{arith, rules, sym, subst}
use Rattle.scan_rounds.specs.OpenedScan.{GivesWorkers}
use Rattle.scan_rounds.proofs.assembly.PartsGiven.{left_by_workers, no_workers, workers_more}
use Rattle.scan_rounds.proofs.open.Parts.workers.Goals as goal

pub loop-init : goal.loop-init
loop-init g c = record {
  made = subst (λ ws. GivesWorkers c.args.self.now c.args.self.now ws) (sym c.requires.empty.0)
      (no_workers c.args.self.now);
  so_far = search rules;
  capacity = search rules;
}

pub worker-requires-clause-actor : goal.worker-requires-clause-actor
worker-requires-clause-actor g c =
    let left = (left_by_workers _ _ _ c.loop.invariant.made.left_are).0 in
    omega (arith, left, c.requires.actors)

pub worker-requires-clause-seat : goal.worker-requires-clause-seat
worker-requires-clause-seat g c =
    let left = (left_by_workers _ _ _ c.loop.invariant.made.left_are).1 in
    omega (arith, left, c.requires.seats)

pub loop-preserved : goal.loop-preserved
loop-preserved g c = record {
  made = workers_more _ _ _ _ _ _ c.push_reserved.ensures.items c.loop.invariant.made
      c.worker.ensures.worker c.worker.ensures.left;
  so_far = search rules;
  capacity = search rules;
}
