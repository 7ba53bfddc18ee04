use Rattle.std.proofs.Common.{◌≡◌, ◌+◌, ◌-◌, arith, refl}
use Rattle.std.proofs.lemmas.Grind.{common_steps}
use Rattle.page_check.proofs.ValidPages.{line_pointer_fits}
use Rattle.page_check.specs.LinePointers.{line_pointer_of}
use Rattle.heap_scan.proofs.Items.{lines_from-none, lines_from-more}
use Rattle.heap_scan.proofs.SumsOverPages.{few_items}
use Rattle.heap_scan.proofs.lines.put_items.Goals as goal

pub put_item_at-at-requires-clause-in_page : goal.put_item_at-at-requires-clause-in_page
put_item_at-at-requires-clause-in_page c =
    omega (
      arith,
      line_pointer_fits c.args.page.now (c.loop-left.left - 1) c.requires.valid
          (omega (arith, c.requires.in_page, c.loop-left.invariant.last, c.loop-left-test.true)),
      c.bytes-bytes.ensures.size,
    )

pub put_item_at-at-requires-clause-number : goal.put_item_at-at-requires-clause-number
put_item_at-at-requires-clause-number c =
    omega (
      arith,
      few_items c.args.page.now c.requires.valid,
      c.requires.in_page,
      c.loop-left.invariant.last,
      c.loop-left-test.true,
    )

pub loop-left-init : goal.loop-left-init
loop-left-init c = record {
  first = omega (arith, c.requires.order);
  last = omega arith;
  room = omega (arith, c.requires.room);
  within = omega arith;
  written = grind (
    arith,
    common_steps,
    lines_from-none (line_pointer_of c.args.page.now) c.args.to c.args.to refl,
  );
}

pub loop-left-preserved : goal.loop-left-preserved
loop-left-preserved c =
    let one : c.loop-left.left - 1 + 1 ≡ c.loop-left.left = omega (arith, c.loop-left-test.true) in
    record {
      first = omega (arith, c.loop-left-test.true);
      last = omega arith;
      room = omega (arith, c.put_item_at-at.ensures.start, c.loop-left-test.true);
      within = omega (arith, c.put_item_at-at.ensures.start);
      written = grind (
        arith,
        common_steps,
        one,
        lines_from-more (line_pointer_of c.args.page.now) (c.loop-left.left - 1) c.args.to
            (omega (arith, c.loop-left-test.true)),
      );
    }

pub returns-clause-written : goal.returns-clause-written
returns-clause-written c =
    let last : c.loop-left.left ≡ c.args.from = omega arith in
    grind (arith, common_steps, last)
