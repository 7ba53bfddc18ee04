use Rattle.std.proofs.Common.{sym, ◌∙◌}
use Rattle.aio_batch.proofs.StagedTokensKept.{staged_tokens-next}
use Rattle.aio_batch.proofs.NextSubmission.{next-submitted}
use Rattle.aio_batch.proofs.batch.Batch.pop_submitted.Goals as goal

pub returns-clause-next : goal.returns-clause-next
returns-clause-next g c reads faults =
    let first = sym c.self.view_is ∙ c.in_ok-staged.ensures.items in
    let submit = c.submit.ensures in
    next-submitted g.R.Record.aim c.args.self.now _ c.in_ok-staged.staged c.submit.result
    c.args.actor.now.known c.submit.new.actor.known reads faults first submit.event submit.token

pub returns-clause-tokens : goal.returns-clause-tokens
returns-clause-tokens g c = staged_tokens-next g.R.Record.aim c.args.self.now _ c.submit.result
    c.args.actor.now.known c.submit.new.actor.known 0 0 0 0 c.requires.tokens
    (returns-clause-next g c 0 0)
