use Rattle.std.proofs.Common.{List, sym, subst}
use Rattle.aio_word.specs.declared.Known.{Known}
use Rattle.method_ring.specs.ClaimedIos.{ClaimedIo}
use Rattle.method_ring.specs.RingRunner.{GathersIos}
use Rattle.method_ring.proofs.GroupClaims.{gathers-won, gathers-lost}
use Rattle.method_ring.proofs.gather.join.Goals as goal

pub returns-in-Some-clause-gathers : goal.returns-in-Some-clause-gathers
returns-in-Some-clause-gathers g c =
    let p : Known = c.args.actor.now.known in
    let q : Known = c.claim.new.actor.known in
    let won = c.in-Some.ensures.won in
    let token = c.in-Some.ensures.token in
    let io = c.in-Some.ensures.record in
    subst (λ (hs : List ClaimedIo). GathersIos g.W.World 1 p q
    c.args.group.now.claimed_ios hs) (sym c.enter.ensures.claimed_appended)
    (gathers-won g.W.World p q c.args.group.now.claimed_ios
    c.args.reference
    c.in-Some.claimed c.has_seen_its_marks.ensures won.0 won.1 token.0 token.1 io.0 io.1
    c.requires.numbers
    c.requires.all_claimed)

pub returns-in_default-clause-gathers : goal.returns-in_default-clause-gathers
returns-in_default-clause-gathers g c =
    gathers-lost g.W.World c.args.actor.now.known c.claim.new.actor.known
    c.args.group.now.claimed_ios _ _ c.in_default.ensures.lost.1 c.requires.numbers
    c.requires.all_claimed
