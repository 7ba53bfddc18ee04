use Rattle.std.proofs.Common.{◌<◌, ◌-◌, ◌∙◌, [], ◌∷◌, length, true, set, refl, sym, ap, arith}
use Rattle.std.proofs.Common.{length-append, length-set}
use Rattle.page_check.specs.LinePointers.{line_pointer_count}
use Rattle.heap_tuple.specs.Tuples.{step_of}
use Rattle.heap_tuple.specs.ChainLengths.{IsPath}
use Rattle.heap_tuple.proofs.PathMarks.{path_none, path_pushed, path_few}
use Rattle.heap_tuple.proofs.PassedItems.{passes-more}
use Rattle.heap_tuple.proofs.chains.pass_items.Goals as goal

pub loop-passed-init : goal.loop-passed-init
loop-passed-init c = record {
  below = c.requires.first;
  size = c.requires.size;
  path = rw c.requires.empty (path_none c.args.passed.now);
  steps = rw c.requires.empty refl;
}

pub loop-passed-smaller : goal.loop-passed-smaller
loop-passed-smaller c =
    let is = c.loop-passed.invariant in
    let more : IsPath c.args.passed.now (set c.loop-passed.passed c.from-in-loop-passed.result true)
    c.push.new.self.items =
    path_pushed _ _ _ _ c.loop-passed.item c.from.result _ is.path
    (omega (arith, is.below, c.requires.size)) (is.size
    ∙ sym c.requires.size) c.from.ensures c.loop-passed-test.true c.from-in-loop-passed.ensures
    c.in_ok-push.ensures.items in
    let few = path_few _ _ _ more in
    let grown = ap length c.in_ok-push.ensures.items
    ∙ length-append c.loop-passed.path.items (c.loop-passed.item ∷ []) in
    let smaller : line_pointer_count c.args.page.now - length c.push.new.self.items
    < line_pointer_count c.args.page.now
    - length c.loop-passed.path.items =
    omega (arith, few, grown, c.requires.size) in
    smaller

pub loop-passed-preserved : goal.loop-passed-preserved
loop-passed-preserved c =
    let is = c.loop-passed.invariant in record {
      below = c.in-Some.ensures.below;
      size = length-set c.loop-passed.passed c.from-in-loop-passed.result true ∙ is.size;
      path = path_pushed _ _ _ _ c.loop-passed.item c.from.result _ is.path
          (omega (arith, is.below, c.requires.size)) (is.size
          ∙ sym c.requires.size) c.from.ensures c.loop-passed-test.true
          c.from-in-loop-passed.ensures c.in_ok-push.ensures.items;
      steps = rw c.in_ok-push.ensures.items
          (rw (c.in-Some.ensures.value)
          (passes-more (step_of c.args.page.now c.args.block) _ c.loop-passed.item
          c.loop-passed.path.items is.steps));
    }

pub returns-in-None-clause-path : goal.returns-in-None-clause-path
returns-in-None-clause-path c =
    let is = c.loop-passed.invariant in
    path_pushed _ _ _ _ c.loop-passed.item c.from.result _ is.path
    (omega (arith, is.below, c.requires.size)) (is.size
    ∙ sym c.requires.size) c.from.ensures c.loop-passed-test.true c.from-in-loop-passed.ensures
    c.in_ok-push.ensures.items

pub returns-in-None-clause-steps : goal.returns-in-None-clause-steps
returns-in-None-clause-steps c =
    let is = c.loop-passed.invariant in
    rw c.in_ok-push.ensures.items
    (rw (c.in-None.ensures.value)
    (passes-more (step_of c.args.page.now c.args.block) _ c.loop-passed.item
    c.loop-passed.path.items is.steps))
