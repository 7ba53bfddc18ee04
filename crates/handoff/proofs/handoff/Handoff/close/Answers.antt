use Rattle.std.proofs.Common.{arith}
use Rattle.handoff.proofs.ClientStepsKeepRule.{client-closes}
use Rattle.handoff.proofs.SeatsKnowState.{client_at, knows_idle}
use Rattle.handoff.proofs.handoff.Handoff.close.Goals as goal

pub change_word-change-requires : goal.change_word-change-requires
change_word-change-requires g c =
    let at = client_at _ _ _ _ _ _ c.self.view_is c.client.view_is c.requires.client in record {
      same_table = (at.0, omega (arith, c.self.invariant.0));
      allows = client-closes g.S.Service.may_request g.S.Service.replies c.self.inside.inner.shared.key _ _ _ _
          c.client.invariant.0
          (knows_idle _ _ _ _ at.1 c.client.view_is c.client.invariant.1 c.requires.idle);
    }
