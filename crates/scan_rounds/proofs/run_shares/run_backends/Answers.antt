use Rattle.std.proofs.Common.{ap, arith, length}
use Rattle.std.proofs.lemmas.List.{with_items_is}
use Rattle.scan_rounds.proofs.run_shares.run_backends.Goals as goal

pub returns-clause-ran : goal.returns-clause-ran
returns-clause-ran g c =
    let ran = c.refuse_run.ensures.ran c.args.unread in
    let own = c.as_mut_slice-backends.ensures.value in
    let long = ap length own in
    let backends = with_items_is c.args.backends.now c.refuse_run.new.backends
    (omega (arith, ran.as_many, long, c.args.backends.now.ok)) in
    rw backends (rw own at ran)
