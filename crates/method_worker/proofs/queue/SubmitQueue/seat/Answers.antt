use Rattle.std.proofs.Common.{ℕ, ◌<◌, sym, ap, subst}
use Rattle.method_worker.proofs.StepsKeepBalance.{forks}
use Rattle.method_worker.proofs.queue.SubmitQueue.seat.Goals as goal

pub another-requires-clause-rule : goal.another-requires-clause-rule
another-requires-clause-rule g c =
    forks _ _ _ (subst (λ (n : ℕ). 1 < n) (sym (ap (λ x. x.parts) c.first.view_is))
    c.requires.parts)
