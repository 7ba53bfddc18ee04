use Rattle.std.proofs.Common.{◌≡◌, ◌+◌, ◌-◌, arith, refl}
use Rattle.std.proofs.lemmas.Grind.{common_steps}
use Rattle.heap_tuple.proofs.ItemTexts.{texts_from-none, texts_from-more}
use Rattle.heap_tuple.proofs.lines.put_items.Goals as goal

pub loop-left-init : goal.loop-left-init
loop-left-init c = record {
  first = omega (arith, c.requires.order);
  last = omega arith;
  room = omega (arith, c.requires.room);
  within = omega arith;
  written = grind (
    arith,
    common_steps,
    texts_from-none c.args.page.now c.args.block c.args.to c.args.to refl,
  );
}

pub loop-left-preserved : goal.loop-left-preserved
loop-left-preserved c =
    let one : c.loop-left.left - 1 + 1 ≡ c.loop-left.left = omega (arith, c.loop-left-test.true) in
    record {
      first = omega (arith, c.loop-left-test.true);
      last = omega arith;
      room = omega (arith, c.put_lines-at.ensures.start, c.loop-left-test.true);
      within = omega (arith, c.put_lines-at.ensures.start);
      written = grind (
        arith,
        common_steps,
        one,
        texts_from-more c.args.page.now c.args.block (c.loop-left.left - 1) c.args.to
            (omega (arith, c.loop-left-test.true)),
      );
    }

pub returns-clause-written : goal.returns-clause-written
returns-clause-written c =
    let last : c.loop-left.left ≡ c.args.from = omega arith in
    grind (arith, common_steps, last)
