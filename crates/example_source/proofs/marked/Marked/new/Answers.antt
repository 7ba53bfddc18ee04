use Rattle.std.proofs.Common.{◌*◌, filter, arith}
use Rattle.std.specs.List.{range_with_len}
use Rattle.std.proofs.lemmas.List.{length-map}
use Rattle.std.proofs.lemmas.List.FromFn.{length-range_with_len}
use Rattle.std.proofs.lemmas.List.Sums.{count_by-le-length, length-filter}
use Rattle.block_source.specs.BlocksLeft.{block_alone}
use Rattle.example_source.specs.MarkedBlocks.{is_marked}
use Rattle.example_source.proofs.marked.Marked.new.Goals as goal

pub returns-clause-few : goal.returns-clause-few
returns-clause-few c =
    let marked = is_marked c.args.bits.items in
    let all = range_with_len 0 (8 * c.len.result) in
    omega (
      arith,
      length-map (filter marked all) block_alone,
      length-filter marked all,
      count_by-le-length marked all,
      length-range_with_len 0 (8 * c.len.result),
    )
