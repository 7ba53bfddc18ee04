use Rattle.std.proofs.Common.{◌≡◌, length, List, ◌++◌, [], ◌∷◌, ap, ◌∙◌, subst, sym}
use Rattle.method_ring.specs.Pending.{entry, pending_entry}
use Rattle.method_ring.specs.ClaimedIos.{ClaimedIo, NumbersBelow, claimed_entry, IsReadableRecord}
use Rattle.method_ring.specs.Group.{PendingReadsClaimed}
use Rattle.method_ring.proofs.GroupHoldsPending.{new-number, joined-push}
use Rattle.method_ring.proofs.group.Group.enter.Goals as goal

pub submit-requires-clause-new : goal.submit-requires-clause-new
submit-requires-clause-new g c =
    let below : NumbersBelow (length c.self.inside.room) c.self.inside.room =
    subst (λ z. NumbersBelow (length z.claimed_ios) z.claimed_ios) (sym c.self.view_is)
    c.requires.numbers in
    ap (λ n. pending_entry n (g.G.Ring.pending c.self.inside.ring)) c.len-user.ensures
    ∙ new-number (g.G.Ring.pending c.self.inside.ring) (g.G.Ring.relations c.self.inside.ring)
    c.self.inside.room c.self.invariant below

pub invariant_of-self : goal.invariant_of-self
invariant_of-self g c =
    let x : ClaimedIo = (c.len-user.result, c.args.claimed) in
    let relation : c.relation-relation.result ≡ x.1.1.relation =
    c.relation-relation.ensures ∙ ap (λ r. r.relation) c.record.ensures in
    let first : c.first-first.result ≡ x.1.1.first =
    c.first-first.ensures ∙ ap (λ r. r.first) c.record-2.ensures in
    let count : c.count-count.result ≡ x.1.1.count =
    c.count-count.ensures.value ∙ ap (λ r. r.count) c.record-3.ensures in
    let pending = g.G.Ring.pending c.self.inside.ring in
    let is : g.G.Ring.pending c.submit.new.self ≡ pending ++ claimed_entry x ∷ [] =
    c.submit.ensures.pending
    ∙ (λ k. pending ++ entry x.0 (relation k) (first k) (count k) ∷ []) in
    let unread : IsReadableRecord (g.G.Ring.relations c.self.inside.ring) x.1.1 =
    subst (λ z. IsReadableRecord (g.G.Ring.relations z.ring) x.1.1) (sym c.self.view_is)
    c.requires.unread in
    subst (λ (h : List ClaimedIo). PendingReadsClaimed (g.G.Ring.pending c.submit.new.self)
    (g.G.Ring.relations c.submit.new.self) h) (sym c.put.ensures)
    (joined-push pending (g.G.Ring.relations c.self.inside.ring) c.self.inside.room
    c.self.invariant (g.G.Ring.pending c.submit.new.self) (g.G.Ring.relations c.submit.new.self) x
    is c.submit.ensures.told.1 unread)
