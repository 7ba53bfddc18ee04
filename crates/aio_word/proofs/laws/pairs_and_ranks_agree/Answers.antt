use Rattle.aio_word.proofs.RanksAgree.{stands-from-ranks, stands-by-rank}
use Rattle.aio_word.proofs.laws.pairs_and_ranks_agree.Goals as goal

pub returns : goal.returns
returns c = λ config words parts. (
  stands-by-rank config words parts,
  stands-from-ranks config words parts,
)
