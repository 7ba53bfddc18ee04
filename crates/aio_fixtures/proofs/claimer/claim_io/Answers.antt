use Rattle.std.proofs.Common.{◌≡◌, ◌∙◌, sym, subst}
use Rattle.aio_word.specs.declared.WaitRef.{WaitRef}
use Rattle.aio_handle.specs.Labels.{bound_label}
use Rattle.aio_fixtures.proofs.claimer.claim_io.Goals as goal

pub returns-in-Some : goal.returns-in-Some
returns-in-Some g c =
    let e = c.in-Some.ensures in
    record {
      of_table = (e.same.0 ∙ c.requires.table.0, e.same.1 ∙ c.requires.table.1);
      token = e.token.0;
      aim = e.token.1;
      label = subst (λ (z : WaitRef). c.in-Some.claimed.1.label ≡ bound_label z.handle z.generation)
          (sym e.won.0) e.record.0;
    }
