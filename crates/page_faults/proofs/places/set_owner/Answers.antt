use Rattle.std.proofs.Common.{arith}
use Rattle.page_faults.proofs.places.set_owner.Goals as goal

pub returns-clause-behind : goal.returns-clause-behind
returns-clause-behind c = λ piece low high. c.loop-piece.invariant.behind piece low (omega arith)
