use Rattle.std.proofs.Common.{ap, ◌∙◌, sym, arith, subst, ◌∷◌}
use Rattle.atomic_table.specs.Table.{rest}
use Rattle.handoff.specs.declared.slot.SlotContent.TheVariants.{Empty, Request}
use Rattle.handoff.proofs.ClientStepsKeepRule.{client-puts}
use Rattle.handoff.proofs.SeatsKnowState.{client_at, knows_idle}
use Rattle.handoff.proofs.handoff.Handoff.put.Goals as goal

pub exchange-requires : goal.exchange-requires
exchange-requires g c =
    let at = client_at _ _ _ _ _ _ c.self.view_is c.client.view_is c.requires.client in
    let is = knows_idle _ _ _ _ at.1 c.client.view_is c.client.invariant.1 c.requires.idle in
    (at.0, (Empty, ap (λ m. m.1) is ∙ ap (λ m. (0, Empty) ∷ rest m.1) (sym is)))

pub change_word-change-requires : goal.change_word-change-requires
change_word-change-requires g c =
    let at = client_at _ _ _ _ _ _ c.self.view_is c.client.view_is c.requires.client in
    let is = knows_idle _ _ _ _ at.1 c.client.view_is c.client.invariant.1 c.requires.idle in record {
      same_table = (c.exchange.ensures.0 ∙ at.0, omega (arith, c.self.invariant.0));
      allows = client-puts g.S.Service.may_request g.S.Service.replies c.self.inside.inner.shared.key _ _ _
          c.args.request (c.exchange.ensures.1 ∙ c.client.invariant.0)
          (c.exchange.ensures.3 ∙ ap (λ m. (m.0, (0, Request c.args.request) ∷ rest m.1)) is)
          (subst (λ k. g.S.Service.may_request k c.args.request) (sym (ap (λ x. x.key) c.self.view_is))
          c.requires.may);
    }
