use Rattle.std.proofs.Common.{subst}
use Rattle.aio_word.specs.declared.Known.{Known}
use Rattle.aio_word.specs.declared.Kind.TheVariants as kind
use Rattle.aio_word.specs.declared.WaitRef.{WaitRef}
use Rattle.aio_word.specs.Tokens.{make_mark}
use Rattle.std.proofs.Common.{[], ◌∷◌}
use Rattle.aio_handle.specs.Execution.{ExecutesAll}
use Rattle.aio_handle.proofs.ClaimAttemptIsKnown.{lost-is-known, executed_is_known}
use Rattle.aio_handle.proofs.ListsGrow.{look-on}
use Rattle.aio_handle.proofs.ExecutionsCompose.{executes_nothing, claim_then_executes}
use Rattle.aio_handle.proofs.table.Table.try_execute.Goals as goal

pub returns-in-Some-clause-marks : goal.returns-in-Some-clause-marks
returns-in-Some-clause-marks g c =
    let won = c.in-Some.ensures.won in
    claim_then_executes c.args.reference c.in-Some.claimed.0 (g.R.Record.aim c.in-Some.claimed.1)
    c.args.actor.now.known c.claim.new.actor.known c.execute.new.actor.known
    (g.E.Execute.reads c.args.runner.now) (g.E.Execute.reads c.execute.new.self)
    (g.E.Execute.faults c.args.runner.now) (g.E.Execute.faults c.execute.new.self)
    won.0 won.1 c.execute.ensures.marks

pub returns-in-Some-clause-won : goal.returns-in-Some-clause-won
returns-in-Some-clause-won g c _ =
    let q : Known = c.claim.new.actor.known in
    let r : Known = c.execute.new.actor.known in
    let won = c.in-Some.ensures.won in (
      executed_is_known c.args.reference c.in-Some.claimed.0 q r
          (g.E.Execute.reads c.args.runner.now) (g.E.Execute.reads c.execute.new.self)
          (g.E.Execute.faults c.args.runner.now) (g.E.Execute.faults c.execute.new.self)
          won.0 c.execute.ensures.marks c.has_seen_its_marks-in-Some.ensures,
      record {
        aim = g.R.Record.aim c.in-Some.claimed.1;
        between = q;
        event_made = won.1;
        ended = subst (λ (z : WaitRef). ExecutesAll (make_mark z kind.Claimed ∷ []) q r
            (g.E.Execute.reads c.args.runner.now) (g.E.Execute.reads c.execute.new.self)
            (g.E.Execute.faults c.args.runner.now) (g.E.Execute.faults c.execute.new.self))
            won.0 c.execute.ensures.marks;
      },
    )

pub returns-in-None-clause-marks : goal.returns-in-None-clause-marks
returns-in-None-clause-marks g c =
    executes_nothing c.args.actor.now.known c.claim.new.actor.known _ _
    (look-on _ _ _ _ c.in-None.ensures.lost.1)

pub returns-in-None-clause-sees : goal.returns-in-None-clause-sees
returns-in-None-clause-sees g c =
    lost-is-known c.args.reference _ c.args.actor.now.known c.claim.new.actor.known
    c.has_seen_its_marks.ensures
    c.in-None.ensures.lost.1 c.in-None.ensures.lost.2
