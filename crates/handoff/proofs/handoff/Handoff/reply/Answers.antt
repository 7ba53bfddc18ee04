use Rattle.std.proofs.Common.{ap, ◌∙◌, sym, arith, subst, ◌∷◌}
use Rattle.atomic_table.specs.Table.{rest}
use Rattle.handoff.specs.declared.slot.SlotContent.TheVariants.{Reply}
use Rattle.handoff.proofs.ServerStepsKeepRule.{server-replies}
use Rattle.handoff.proofs.SeatsKnowState.{pending_at, knows_serving}
use Rattle.handoff.proofs.handoff.Handoff.reply.Goals as goal

pub change_word-change-requires : goal.change_word-change-requires
change_word-change-requires g c =
    let q = c.pending.inside.request.value in
    let at = pending_at _ _ _ _ _ _ _ c.self.view_is c.pending.view_is c.requires.pending in
    let is = knows_serving _ _ q at.1 c.pending.invariant in record {
      same_table = (c.exchange.ensures.0 ∙ at.0, omega (arith, c.self.invariant.0));
      allows = server-replies g.S.Service.may_request g.S.Service.replies c.self.inside.inner.shared.key _ _ _ q
          c.args.reply
          (c.exchange.ensures.3 ∙ ap (λ m. (m.0, (0, Reply c.args.reply) ∷ rest m.1)) is)
          (subst (λ k. g.S.Service.replies k q c.args.reply) (sym (ap (λ x. x.key) c.self.view_is))
          (subst (λ p. g.S.Service.replies c.args.self.now.key p c.args.reply)
          (sym (ap (λ x. x.request) c.pending.view_is)) c.requires.reply));
    }
