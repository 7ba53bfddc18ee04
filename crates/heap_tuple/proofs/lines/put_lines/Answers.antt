use Rattle.std.proofs.Common.{arith}
use Rattle.heap_scan.proofs.SumsOverPages.{few_items}
use Rattle.heap_tuple.proofs.lines.put_lines.Goals as goal

pub put_item-requires-clause-short : goal.put_item-requires-clause-short
put_item-requires-clause-short c =
    omega (arith, few_items c.args.page.now c.requires.valid, c.requires.index)
