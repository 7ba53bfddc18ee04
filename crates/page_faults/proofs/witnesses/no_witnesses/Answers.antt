use Rattle.page_faults.proofs.NamedBlocks.{witnesses_none}
use Rattle.page_faults.proofs.witnesses.no_witnesses.Goals as goal

pub returns : goal.returns
returns c = λ page. witnesses_none page
