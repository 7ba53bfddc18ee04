use Rattle.std.proofs.Common.{◌≡◌, ◌≢◌, [], ◌∷◌, ◌∙◌, sym, subst, rules, arith}
use Rattle.aio_word.specs.declared.Known.{Known}
use Rattle.aio_word.specs.declared.Step.TheVariants as event
use Rattle.aio_word.specs.declared.WaitRef.{WaitRef}
use Rattle.aio_fixtures.specs.Lives.{HasUnreclaimed}
use Rattle.aio_fixtures.proofs.Lives.{amid, amid-then, begun}
use Rattle.aio_fixtures.proofs.UnreclaimedIos.{not-defined, not-staged, begun-unreclaimed}
use Rattle.aio_fixtures.proofs.owner.submit_acquired.Goals as goal

begins : goal.returns-clause-begins
begins g c =
    let stage = c.stage-token.ensures.event in
    let submit = c.submit.ensures.event in
    begun c.args.token.handle c.args.token.generation _ c.args.actor.now.known
    c.define-token.new.actor.known c.submit.new.actor.known c.define-token.ensures.event
    (amid-then c.define-token.new.actor.known c.stage-token.new.actor.known c.submit.new.actor.known
    (amid event.Stage _ _ _ _ _ _ stage (omega arith) (omega arith))
    (amid event.Submit _ _ _ _ _ _ submit (omega arith) (omega arith)))

pub returns-clause-begins : goal.returns-clause-begins
returns-clause-begins g c = begins g c

pub returns-clause-unreclaimed : goal.returns-clause-unreclaimed
returns-clause-unreclaimed g c over =
    let s : Known = c.submit.new.actor.known in
    let same : c.submit.result ≡ c.args.token = search rules in
    subst (λ (x : WaitRef). HasUnreclaimed (x ∷ []) s) (sym same)
    (begun-unreclaimed c.args.token c.args.actor.now.known s over (begins g c) (search rules))

pub returns-clause-others_in_flight : goal.returns-clause-others_in_flight
returns-clause-others_in_flight g c u flies =
    let p : Known = c.args.actor.now.known in
    let q : Known = c.define-token.new.actor.known in
    let r : Known = c.stage-token.new.actor.known in
    let s : Known = c.submit.new.actor.known in
    let defined = c.define-token.ensures.token in
    let staged = c.stage-token.ensures.token in
    let sent = c.submit.ensures.token in
    let one = (c.define_keeps_tokens.ensures u _ _ _ p q c.has_seen_its_marks.ensures
    c.define-token.ensures.event).in_flight flies in
    let other : u ≢ c.define-token.result.0 =
    not-defined u c.define-token.result.0 q one defined.2 in
    let two = (c.events_keep_other_tokens.ensures.elsewhere u event.Stage _ _ _ _ q r
    c.stage-token.ensures.event other).in_flight one in
    let another : u ≢ c.stage-token.result.0 = not-staged u c.stage-token.result.0 r two staged.1 in
    let three = (c.events_keep_other_tokens.ensures.elsewhere u event.Submit _ _ _ _ r s
    c.submit.ensures.event another).in_flight two in
    ((λ e. another (e ∙ sent.0)), three)
