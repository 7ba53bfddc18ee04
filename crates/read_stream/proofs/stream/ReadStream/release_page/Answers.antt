use Rattle.std.proofs.Common.{ap, sym, ◌∙◌, arith, ◌≡◌}
use Rattle.read_stream.proofs.PageGivenBack.{last_returned, lent_left, more_returned}
use Rattle.read_stream.proofs.PageGivenBack.{nothing_lent, nothing_returned, pinned_returned}
use Rattle.read_stream.specs.declared.at_hand.AtHand.{AtHand}
use Rattle.read_stream.specs.AtHand.{lent_count}
use Rattle.read_stream.proofs.stream.ReadStream.release_page.Goals as goal

pub release_page-requires : goal.release_page-requires
release_page-requires g c = λ e at.
    let few = c.has_one_page_left.ensures.few e at in
    let left = lent_left g.S.BlockSource.left g.W.World c.args.self.now.actor_is.value.known
    c.args.self.now c.requires.between (sym c.replace.ensures.value ∙ c.in-Lent.is) e
    (rw c.release_front-in-Lent.ensures at at) in
    omega arith

pub returns-in-Pinned-clause-underway : goal.returns-in-Pinned-clause-underway
returns-in-Pinned-clause-underway g c = rw c.release_front.ensures
    (pinned_returned g.S.BlockSource.left g.W.World c.args.self.now.actor_is.value.known
    c.args.self.now c.requires.between c.in-Pinned.pin c.replace.new.dest
    (sym c.replace.ensures.value ∙ c.in-Pinned.is))

pub returns-then-has_one_page_left-clause-underway : goal.returns-then-has_one_page_left-clause-underway
returns-then-has_one_page_left-clause-underway g c =
    rw (c.finished.ensures, c.free_oldest.ensures, c.release_front-in-Lent.ensures)
    (last_returned g.S.BlockSource.left g.W.World c.args.self.now.actor_is.value.known
    c.args.self.now c.requires.between c.replace.new.dest
    (sym c.replace.ensures.value ∙ c.in-Lent.is)
    (λ e at. (c.has_one_page_left.ensures.last e (rw c.release_front-in-Lent.ensures at)).0
    c.if-has_one_page_left.true))

pub returns-else-has_one_page_left-clause-underway : goal.returns-else-has_one_page_left-clause-underway
returns-else-has_one_page_left-clause-underway g c =
    rw (c.release_page.ensures, c.release_front-in-Lent.ensures)
    (more_returned g.S.BlockSource.left g.W.World c.args.self.now.actor_is.value.known
    c.args.self.now c.requires.between c.replace.new.dest
    (sym c.replace.ensures.value ∙ c.in-Lent.is)
    (λ e at last. (let is = (c.has_one_page_left.ensures.last e (rw c.release_front-in-Lent.ensures at)).1 last in
    let not = c.if-has_one_page_left.false in absurd (cc))))

pub returns-in-Nothing-clause-underway : goal.returns-in-Nothing-clause-underway
returns-in-Nothing-clause-underway g c =
    nothing_returned g.S.BlockSource.left g.W.World c.args.self.now.actor_is.value.known
    c.args.self.now c.requires.between c.replace.new.dest
    (nothing_lent c.args.self.now.at_hand c.replace.result c.replace.ensures.value
    c.requires.running c.in-Nothing.is)

pub returns-in-Nothing-clause-given : goal.returns-in-Nothing-clause-given
returns-in-Nothing-clause-given g c =
    let none : lent_count c.args.self.now.at_hand ≡ 0 =
    ap (λ (z : AtHand g.row.W.Denot). lent_count z)
    (nothing_lent c.args.self.now.at_hand c.replace.result c.replace.ensures.value
    c.requires.running c.in-Nothing.is) in omega arith
