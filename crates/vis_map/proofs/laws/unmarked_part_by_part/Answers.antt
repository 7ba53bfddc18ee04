use Rattle.vis_map.proofs.UnmarkedLists.{part_by_part}
use Rattle.vis_map.proofs.laws.unmarked_part_by_part.Goals as goal

pub returns : goal.returns
returns c = part_by_part
