use Rattle.vis_map.proofs.UnmarkedLists.{nothing_marked}
use Rattle.vis_map.proofs.laws.nothing_is_skipped_without_pages.Goals as goal

pub returns : goal.returns
returns c = nothing_marked
