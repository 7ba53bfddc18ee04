use Rattle.std.proofs.Common.{rules}
use Rattle.handoff.proofs.ClientStepsKeepRule.{opening_has_rule, client-opens}
use Rattle.handoff.proofs.handoff.Handoff.open.Goals as goal

pub new-requires : goal.new-requires
new-requires g c = opening_has_rule g.S.Service.may_request g.S.Service.replies _ _ _ (search rules) (search rules) (search rules)

pub swap-requires : goal.swap-requires
swap-requires g c = (
  search rules,
  search rules,
  client-opens g.S.Service.may_request g.S.Service.replies _ _ _ _ (search rules) (search rules),
)
