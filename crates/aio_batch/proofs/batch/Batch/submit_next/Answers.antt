use Rattle.aio_batch.proofs.StagedTokensKept.{staged_tokens-next}
use Rattle.aio_batch.proofs.NextSubmission.{next-begun}
use Rattle.aio_batch.proofs.batch.Batch.submit_next.Goals as goal

pub returns-clause-next : goal.returns-clause-next
returns-clause-next g c =
    next-begun g.R.Record.aim c.args.self.now c.pop_submitted.new.self c.in_ok-token.token
    c.args.actor.now.known c.pop_submitted.new.actor.known c.begun.new.actor.known _ _ _ _
    (c.in_ok-token.ensures.next _ _) c.begun.ensures.marks

pub returns-clause-tokens : goal.returns-clause-tokens
returns-clause-tokens g c = staged_tokens-next g.R.Record.aim c.args.self.now
    c.pop_submitted.new.self c.in_ok-token.token c.args.actor.now.known c.begun.new.actor.known
    _ _ _ _ c.requires.tokens (returns-clause-next g c)
