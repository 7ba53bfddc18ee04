use Rattle.std.proofs.Common.{arith}
use Rattle.request_list.proofs.MapPageCount.{has_two}
use Rattle.request_list.proofs.cutter.ResolvedCommand.map_pages.Goals as goal

pub bounds-self-1 : goal.bounds-self-1
bounds-self-1 c =
    let (skip, map) = c.requires.map in
    omega (
      arith,
      has_two c.args.self.now map.map map.of.file c.requires.asked map.of.one_file map.given,
      c.requires.asked.lengths_are,
    )
