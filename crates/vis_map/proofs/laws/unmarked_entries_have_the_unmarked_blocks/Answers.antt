use Rattle.vis_map.proofs.UnmarkedLists.{kept_blocks}
use Rattle.vis_map.proofs.laws.unmarked_entries_have_the_unmarked_blocks.Goals as goal

pub returns : goal.returns
returns g c = kept_blocks
