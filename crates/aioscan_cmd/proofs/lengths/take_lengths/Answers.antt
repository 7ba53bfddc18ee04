use Rattle.std.proofs.Common.{rules, arith}
use Rattle.aioscan_cmd.proofs.LengthsAppend.{HasLengths-more, limit_is, no_lengths}
use Rattle.aioscan_cmd.proofs.lengths.take_lengths.Goals as goal

pub loop-relation-init : goal.loop-relation-init
loop-relation-init g c =
    let s = c.segment-limit.ensures in
    let limit =
    limit_is (g.D.Disk.told c.args.disk.now) (g.D.Disk.segment c.args.disk.now) s.told in
    record {
      taken = no_lengths _ _ _ (omega (arith, limit, s.same, s.most)) (search rules);
      limit = omega (arith, limit, s.same);
      later = omega arith;
      told = search rules;
      segment = search rules;
      relations = search rules;
      faults = search rules;
      reads = search rules;
    }

pub loop-relation-preserved : goal.loop-relation-preserved
loop-relation-preserved g c = record {
  taken = HasLengths-more _ _ _ _ _ _ c.in-Ok-blocks.length c.loop-relation.invariant.told
      c.loop-relation.invariant.taken c.in-Ok-blocks.ensures.length
      (omega (arith, c.loop-relation.invariant.limit)) (search rules);
  limit = c.loop-relation.invariant.limit;
  later = omega arith;
  told = search rules;
  segment = search rules;
  relations = search rules;
  faults = search rules;
  reads = search rules;
}
