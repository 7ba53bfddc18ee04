use Rattle.std.proofs.lemmas.List.FromFn.{length-map-range_with_len}
use Rattle.block_source.specs.BlocksLeft.{block_alone}
use Rattle.block_source.proofs.consecutive.Range.new.Goals as goal

pub returns-clause-count : goal.returns-clause-count
returns-clause-count c = length-map-range_with_len block_alone c.args.first c.args.count
