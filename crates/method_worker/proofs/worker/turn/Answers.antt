use Rattle.std.proofs.Common.{refl}
use Rattle.method_worker.proofs.WorkerStepsInOrder.{tries-of}
use Rattle.method_worker.proofs.worker.turn.Goals as goal

pub returns-in-Entry-clause-worker_step : goal.returns-in-Entry-clause-worker_step
returns-in-Entry-clause-worker_step g c =
    let (word, rest) = c.in-Entry.ensures.pop_answers in
    let tried = c.try_execute.ensures in (
      c.in-Entry.reference,
      word,
      rest.0,
      tries-of c.try_execute.result c.in-Entry.reference c.args.actor.now.known
          c.try_execute.new.actor.known _ _ _ _ (λ e. (tried.won e).1) (λ e. (tried.lost e).1),
    )

pub returns-in-Empty-clause-worker_step : goal.returns-in-Empty-clause-worker_step
returns-in-Empty-clause-worker_step g c =
    let (word, rest) = c.in-Empty.ensures.pop_answers in
    (word, (rest.0, refl))
