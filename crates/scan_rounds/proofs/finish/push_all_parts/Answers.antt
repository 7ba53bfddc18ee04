use Rattle.std.proofs.Common.{◌≡◌, ◌++◌, length, map, Some, ap, sym, ◌∙◌, subst, arith}
use Rattle.std.proofs.lemmas.Iterator.Adapters.{YieldsList-from_vec}
use Rattle.std.proofs.lemmas.Iterator.Consumers.{YieldsList-turn, YieldsList-end}
use Rattle.std.proofs.lemmas.List.{map-id}
use Rattle.scan_rounds.specs.Scans.{HasDisk, actor_of, disk_of}
use Rattle.scan_rounds.proofs.finish.push_all_parts.Goals as goal

pub push_parts-requires-clause-disk_actor : goal.push_parts-requires-clause-disk_actor
push_parts-requires-clause-disk_actor g c κs within =
    let from = c.into_iter-each-iterator.ensures.into_iter_gives in
    let (below, is) = YieldsList-turn
    (YieldsList-from_vec {s = c.into_iter-each-iterator.result} _ from.0
    (from.1 ∙ c.args.all.ok.0))
    c.loop-each.yielded c.loop-each.each-iterator c.loop-each.yielded_by
    c.next.result c.next.new.self c.in-Some.each c.in-Some.is
    c.next.ensures.steps in
    subst (λ h. HasDisk h) (sym (c.into_disk_actor.ensures ∙ ap g.A.HasDiskActor.disk_actor is))
    (c.requires.disk_actors (length c.loop-each.yielded) c.in-Some.each below)

pub push_parts-requires-clause-actors : goal.push_parts-requires-clause-actors
push_parts-requires-clause-actors g c κs within =
    let from = c.into_iter-each-iterator.ensures.into_iter_gives in
    let (below, is) = YieldsList-turn
    (YieldsList-from_vec {s = c.into_iter-each-iterator.result} _ from.0
    (from.1 ∙ c.args.all.ok.0))
    c.loop-each.yielded c.loop-each.each-iterator c.loop-each.yielded_by
    c.next.result c.next.new.self c.in-Some.each c.in-Some.is
    c.next.ensures.steps in
    omega (
      arith,
      c.args.all.ok.0,
      c.requires.actors,
      c.loop-each.invariant.lengths.0,
      c.loop-each.invariant.capacities.0,
    )

pub push_parts-requires-clause-disks : goal.push_parts-requires-clause-disks
push_parts-requires-clause-disks g c κs within =
    let from = c.into_iter-each-iterator.ensures.into_iter_gives in
    let (below, is) = YieldsList-turn
    (YieldsList-from_vec {s = c.into_iter-each-iterator.result} _ from.0
    (from.1 ∙ c.args.all.ok.0))
    c.loop-each.yielded c.loop-each.each-iterator c.loop-each.yielded_by
    c.next.result c.next.new.self c.in-Some.each c.in-Some.is
    c.next.ensures.steps in
    omega (
      arith,
      c.args.all.ok.0,
      c.requires.disks,
      c.loop-each.invariant.lengths.1,
      c.loop-each.invariant.capacities.1,
    )

pub returns-clause-actors : goal.returns-clause-actors
returns-clause-actors g c =
    let from = c.into_iter-each-iterator.ensures.into_iter_gives in
    let (same, long) = YieldsList-end
    (YieldsList-from_vec {s = c.into_iter-each-iterator.result} _ from.0
    (from.1 ∙ c.args.all.ok.0))
    c.loop-each.yielded c.loop-each.each-iterator c.loop-each.yielded_by
    c.next.result c.next.new.self c.in-None.is c.next.ensures.steps in
    subst
    (λ all. c.loop-each.actors.items ≡ c.args.actors.now.items
    ++ map actor_of (map g.A.HasDiskActor.disk_actor all)) (sym (map-id c.loop-each.yielded) ∙ same)
    c.loop-each.invariant.actors

pub returns-clause-disks : goal.returns-clause-disks
returns-clause-disks g c =
    let from = c.into_iter-each-iterator.ensures.into_iter_gives in
    let (same, long) = YieldsList-end
    (YieldsList-from_vec {s = c.into_iter-each-iterator.result} _ from.0
    (from.1 ∙ c.args.all.ok.0))
    c.loop-each.yielded c.loop-each.each-iterator c.loop-each.yielded_by
    c.next.result c.next.new.self c.in-None.is c.next.ensures.steps in
    subst
    (λ all. map Some c.loop-each.disks.items
    ≡ map Some c.args.disks.now.items ++ map disk_of (map g.A.HasDiskActor.disk_actor all))
    (sym (map-id c.loop-each.yielded) ∙ same) c.loop-each.invariant.disks

pub returns-clause-lengths : goal.returns-clause-lengths
returns-clause-lengths g c =
    let from = c.into_iter-each-iterator.ensures.into_iter_gives in
    let (same, long) = YieldsList-end
    (YieldsList-from_vec {s = c.into_iter-each-iterator.result} _ from.0
    (from.1 ∙ c.args.all.ok.0))
    c.loop-each.yielded c.loop-each.each-iterator c.loop-each.yielded_by
    c.next.result c.next.new.self c.in-None.is c.next.ensures.steps in (
      omega (arith, c.args.all.ok.0, c.loop-each.invariant.lengths.0),
      omega (arith, c.args.all.ok.0, c.loop-each.invariant.lengths.1),
    )
