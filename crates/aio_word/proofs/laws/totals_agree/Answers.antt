use Rattle.aio_word.proofs.RanksAgree.{stands-by-rank}
use Rattle.aio_word.proofs.StepIsMachineStep.{at-get}
use Rattle.aio_word.proofs.TotalsAgree.{totals-agree}
use Rattle.aio_word.proofs.laws.totals_agree.Goals as goal

pub returns : goal.returns
returns c = λ config words parts s idle. totals-agree config words parts
    (stands-by-rank config words parts s)
    (λ h w at. idle h w (at-get words h w at))
