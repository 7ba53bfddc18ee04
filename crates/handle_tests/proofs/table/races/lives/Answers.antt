use Rattle.std.proofs.Common.{ℕ, ◌<◌, sym, ◌∙◌, subst}
use Rattle.handle_tests.proofs.table.races.lives.Goals as goal

pub loop-n-preserved : goal.loop-n-preserved
loop-n-preserved g c = record {
  table = (
    c.live.ensures.same.0 ∙ c.loop-n.invariant.table.0,
    c.live.ensures.same.1
        ∙ c.loop-n.invariant.table.1,
  );
  backend = subst (λ (z : ℕ). z < c.args.table.now.config.backends)
      (sym c.live.ensures.same.2) c.loop-n.invariant.backend;
  no_owner_tokens = c.live.ensures.no_owner_tokens c.if-not-live.false;
}
