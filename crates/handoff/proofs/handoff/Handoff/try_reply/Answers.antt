use Rattle.std.proofs.Common.{rules, ◌∙◌, arith}
use Rattle.handoff.proofs.ClientStepsKeepRule.{client-takes_reply}
use Rattle.handoff.specs.declared.slot.SlotContent.TheVariants.{Reply}
use Rattle.handoff.proofs.SeatsKnowState.{client_at, knows_requested, first_of}
use Rattle.handoff.proofs.handoff.Handoff.try_reply.Goals as goal

pub compare_exchange-found-requires : goal.compare_exchange-found-requires
compare_exchange-found-requires g c =
    let at = client_at _ _ _ _ _ _ c.self.view_is c.client.view_is c.requires.client in
    let knows = knows_requested _ _ _ _ at.1 c.client.view_is c.client.invariant.1 c.requires.requested in (
      at.0,
      omega (arith, c.self.invariant.0),
      client-takes_reply g.S.Service.may_request g.S.Service.replies c.self.inside.inner.shared.key _ _ _
          knows.0 c.client.invariant.0 knows.1,
    )

pub exchange-requires : goal.exchange-requires
exchange-requires g c =
    let at = client_at _ _ _ _ _ _ c.self.view_is c.client.view_is c.requires.client in
    let told = c.compare_exchange-found.ensures.2 in
    let got = told.2 (search rules) in (
      c.compare_exchange-found.ensures.0 ∙ at.0,
      (Reply got.0, first_of (Reply got.0) got.2),
    )
