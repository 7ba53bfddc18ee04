use Rattle.std.proofs.Common.{rules, inr}
use Rattle.method_worker.proofs.method.WorkerMethodMethodReadIo.begun.Goals as goal

pub returns-in-Err-clause-begun : goal.returns-in-Err-clause-begun
returns-in-Err-clause-begun g c =
    let (is, seat, full) = c.in-Err.ensures.full in
    inr (seat, full, rw (← is) (search rules))
