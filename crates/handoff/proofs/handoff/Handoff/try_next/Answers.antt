use Rattle.std.proofs.Common.{rules, ◌∙◌, arith}
use Rattle.handoff.specs.declared.slot.SlotContent.TheVariants.{Request}
use Rattle.handoff.proofs.SeatsKnowState.{first_of}
use Rattle.handoff.proofs.ServerStepsKeepRule.{server-looks, server-serves}
use Rattle.handoff.proofs.handoff.Handoff.try_next.Goals as goal

pub load_new_seat-word-requires : goal.load_new_seat-word-requires
load_new_seat-word-requires g c = (
  omega (arith, c.self.invariant.0),
  server-looks g.S.Service.may_request g.S.Service.replies c.self.inside.inner.shared.key _,
)

pub compare_exchange-found-requires : goal.compare_exchange-found-requires
compare_exchange-found-requires g c = (
  c.load_new_seat-word.ensures.0,
  omega (arith, c.self.invariant.0),
  server-serves g.S.Service.may_request g.S.Service.replies c.self.inside.inner.shared.key _ _ _
      c.load_new_seat-word.ensures.2,
)

pub exchange-requires : goal.exchange-requires
exchange-requires g c =
    let got = c.compare_exchange-found.ensures.2.0 (search rules) in (
      c.compare_exchange-found.ensures.0 ∙ c.load_new_seat-word.ensures.0,
      (Request got.0, first_of (Request got.0) got.2),
    )
