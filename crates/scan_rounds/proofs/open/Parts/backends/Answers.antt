use Rattle.std.proofs.Common.{arith, rules, sym, subst}
use Rattle.scan_rounds.specs.OpenedScan.{GivesBackends}
use Rattle.scan_rounds.proofs.assembly.PartsGiven.{backends_more, left_by_backends, left_by_workers}
use Rattle.scan_rounds.proofs.assembly.PartsGiven.{no_backends}
use Rattle.scan_rounds.proofs.open.Parts.backends.Goals as goal

pub loop-init : goal.loop-init
loop-init g c = record {
  made = subst (λ bs. GivesBackends c.args.page_text c.args.self.now c.args.self.now bs)
      (sym c.requires.empty.0) (no_backends c.args.page_text c.args.self.now);
  so_far = search rules;
  capacity = search rules;
}

pub backend-requires-clause-actor : goal.backend-requires-clause-actor
backend-requires-clause-actor g c =
    let left = (left_by_workers _ _ _ c.loop.invariant.made.left_are.others).0 in
    omega (arith, left, c.requires.actors)

pub backend-requires-clause-desk : goal.backend-requires-clause-desk
backend-requires-clause-desk g c =
    let left = left_by_backends _ _ _ c.loop.invariant.made.left_are in
    omega (arith, left, c.requires.desks)

pub loop-preserved : goal.loop-preserved
loop-preserved g c = record {
  made = backends_more _ _ _ _ _ _ _ c.push_reserved.ensures.items c.loop.invariant.made
      c.backend.ensures.backend c.backend.ensures.left;
  so_far = search rules;
  capacity = search rules;
}
