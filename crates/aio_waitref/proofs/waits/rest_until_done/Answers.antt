use Rattle.std.proofs.Common.{◌∙◌}
use Rattle.aio_word.specs.declared.Known.{Known}
use Rattle.aio_waitref.proofs.SeenDone.{checks_on, looks_on}
use Rattle.aio_waitref.proofs.waits.rest_until_done.Goals as goal

pub loop-preserved : goal.loop-preserved
loop-preserved g c =
    let p : Known = c.args.actor.now.known in
    let q : Known = c.loop.actor.known in
    let r : Known = c.check.new.actor.known in
    let s : Known = c.rest.new.actor.known in
    let i = c.loop.invariant in
    let one = c.check.ensures.same in
    let two = c.rest.ensures.same in
    record {
      can_next = tt;
      is_finite = tt;
      table = (two.0 ∙ (one.0 ∙ i.table.0), two.1 ∙ (one.1 ∙ i.table.1));
      same = (two.0 ∙ (one.0 ∙ i.same.0), two.1 ∙ (one.1 ∙ i.same.1), two.2 ∙ (one.2 ∙ i.same.2));
      grows = looks_on _ _ p r s (checks_on _ _ p q r i.grows c.check.ensures.look)
          c.rest.ensures.look.1;
    }
