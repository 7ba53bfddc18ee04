use Rattle.std.proofs.Common.{rules, ◌≡◌, ℕ, List, length, take, [], Option, Some, None, sym, ap}
use Rattle.std.proofs.Common.{◌∙◌, subst}
use Rattle.std.specs.Prelude.{IfNone, IfSome}
use Rattle.page_check.specs.Told.{Told}
use Rattle.aio_disk.specs.Counts.{HasCause, count_plus}
use Rattle.aio_disk.specs.Disk.{AnswersPages}
use Rattle.aio_callback.specs.ReadIoView.{ReadIoView, with_pages}
use Rattle.method_ring.specs.declared.ring.Entry.{Entry}
use Rattle.method_ring.specs.Pending.{pending_entry, without_entry}
use Rattle.method_ring.specs.ClaimedIos.{ClaimedIo, claimed_with_number, without_claimed}
use Rattle.method_ring.specs.ClaimedIos.{claimed_entry}
use Rattle.method_ring.specs.Group.{PendingReadsClaimed}
use Rattle.method_ring.proofs.GroupHoldsPending.{nothing-held, is-held, entry-found, unread-held}
use Rattle.method_ring.proofs.GroupHoldsPending.{filled-by, joined-without, picked-from}
use Rattle.method_ring.proofs.group.Group.next.Goals as goal

if-none : {A : Type 0} (o : Option A) (P : Type 0) → P → IfNone o P
if-none None P p = p
if-none (Some x) P p = tt

pub returns-in_err-user-clause-none : goal.returns-in_err-user-clause-none
returns-in_err-user-clause-none g c =
    let none = c.in_err-user.ensures.none in
    let counts = c.in_err-user.ensures.counts in
    let empty : c.self.inside.room ≡ [] =
    nothing-held (g.G.Ring.pending c.self.inside.ring) (g.G.Ring.relations c.self.inside.ring)
    c.self.inside.room c.self.invariant none.0 in
    if-none c.from_residual.result _ (
      sym (ap (λ z. z.claimed_ios) c.self.view_is) ∙ empty,
      empty,
      counts.0 ∙ ap (λ z. g.G.Ring.reads z.ring) c.self.view_is,
      counts.1 ∙ ap (λ z. g.G.Ring.faults z.ring) c.self.view_is,
    )

pub unreachable-requires : goal.unreachable-requires
unreachable-requires g c =
    is-held (g.G.Ring.pending c.self.inside.ring) (g.G.Ring.relations c.self.inside.ring)
    c.self.inside.room c.self.invariant c.in_ok-user.user c.in_ok-user.ensures.some.0
    (sym c.take.ensures.result_is ∙ c.in_default.is)

pub pages_mut-pages-requires : goal.pages_mut-pages-requires
pages_mut-pages-requires g c =
    let x : ClaimedIo = c.in-Some.held in
    let found : claimed_with_number c.in_ok-user.user c.self.inside.room ≡ Some x =
    sym c.take.ensures.result_is ∙ c.in-Some.is in
    let fresh = unread-held (g.G.Ring.pending c.self.inside.ring)
    (g.G.Ring.relations c.self.inside.ring) c.self.inside.room c.self.invariant c.in_ok-user.user x
    found in
    ap (λ r. r.raw) (c.record_mut.ensures.value ∙ ap (λ h. h.1.1) c.held.view_is) ∙ fresh.no_answer

pub fill-requires-clause-entry : goal.fill-requires-clause-entry
fill-requires-clause-entry g c =
    let x : ClaimedIo = c.in-Some.held in
    let found : claimed_with_number c.in_ok-user.user c.self.inside.room ≡ Some x =
    sym c.take.ensures.result_is ∙ c.in-Some.is in
    filled-by _ (claimed_entry x) _
    (ap (λ es. pending_entry c.in_ok-user.user es) c.pick.ensures.pending
    ∙ entry-found (g.G.Ring.pending c.self.inside.ring) (g.G.Ring.relations c.self.inside.ring)
    c.self.inside.room c.self.invariant c.in_ok-user.user x found)
    (c.pages_mut-pages.ensures.size
    ∙ ap (λ r. r.count) (c.record_mut.ensures.value ∙ ap (λ h. h.1.1) c.held.view_is))

pub answer-requires-clause-unanswered : goal.answer-requires-clause-unanswered
answer-requires-clause-unanswered g c =
    let x : ClaimedIo = c.in-Some.held in
    let found : claimed_with_number c.in_ok-user.user c.self.inside.room ≡ Some x =
    sym c.take.ensures.result_is ∙ c.in-Some.is in
    let fresh = unread-held (g.G.Ring.pending c.self.inside.ring)
    (g.G.Ring.relations c.self.inside.ring) c.self.inside.room c.self.invariant c.in_ok-user.user x
    found in
    let read : c.record_mut-2.result.now ≡ with_pages c.held.inside.claimed.1 c.fill.new.pages =
    search rules in
    ap (λ r. r.raw) read ∙ (ap (λ h. h.1.1.raw) c.held.view_is ∙ fresh.no_answer)

pub invariant_of-self-2 : goal.invariant_of-self-2
invariant_of-self-2 g c =
    subst (λ (h : List ClaimedIo). PendingReadsClaimed (g.G.Ring.pending c.fill.new.self)
    (g.G.Ring.relations c.fill.new.self) h) (sym c.take.ensures.others)
    (joined-without (g.G.Ring.pending c.self.inside.ring) (g.G.Ring.relations c.self.inside.ring)
    c.self.inside.room c.self.invariant (g.G.Ring.pending c.fill.new.self)
    (g.G.Ring.relations c.fill.new.self) c.in_ok-user.user
    (c.fill.ensures.pending ∙ ap (λ es. without_entry c.in_ok-user.user es) c.pick.ensures.pending)
    (c.fill.ensures.told.1 ∙ c.pick.ensures.told.1))

pub returns-clause-some : goal.returns-clause-some
returns-clause-some g c =
    let user : ℕ = c.in_ok-user.user in
    let x : ClaimedIo = c.in-Some.held in
    let pages = c.fill.new.pages in
    let found : claimed_with_number user c.self.inside.room ≡ Some x =
    sym c.take.ensures.result_is ∙ c.in-Some.is in
    let lent : c.record_mut.result.now ≡ x.1.1 =
    c.record_mut.ensures.value ∙ ap (λ h. h.1.1) c.held.view_is in
    let read : c.record_mut-2.result.now ≡ with_pages c.held.inside.claimed.1 pages =
    search rules in
    let answered = c.answer.ensures
    ∙ ap (λ (r : ReadIoView). record r { raw = Some c.answer_of-raw.result })
    (read ∙ ap (λ h. with_pages h.1.1 pages) c.held.view_is) in
    let entry-is : pending_entry user (g.G.Ring.pending c.pick.new.self) ≡ Some (claimed_entry x) =
    ap (λ es. pending_entry user es) c.pick.ensures.pending
    ∙ entry-found (g.G.Ring.pending c.self.inside.ring) (g.G.Ring.relations c.self.inside.ring)
    c.self.inside.room c.self.invariant user x found in
    let told : g.G.Ring.told c.pick.new.self ≡ g.W.World.told = c.pick.ensures.told.0
    ∙ (ap (λ z. g.G.Ring.told z.ring) c.self.view_is ∙ c.requires.told) in
    let answers = subst (λ (o : Option Entry). IfSome o
    (λ e. AnswersPages (g.G.Ring.told c.pick.new.self) e.relation e.first c.fill.result pages))
    entry-is c.fill.ensures.pages in
    let told-answers = subst (λ (w : Option Told).
    AnswersPages w x.1.1.relation x.1.1.first c.fill.result pages) told answers in
    let room = subst (λ (r : ReadIoView). length (take r.count r.pages) ≡ r.count) lent
    (sym (ap length c.pages_mut-pages.ensures.value) ∙ c.pages_mut-pages.ensures.size) in
    let kept : length pages ≡ length c.pages_mut-pages.result.now = search rules in
    let size : length pages ≡ x.1.1.count =
    kept ∙ (c.pages_mut-pages.ensures.size ∙ ap (λ r. r.count) lent) in
    let reads : g.G.Ring.reads c.pick.new.self ≡ g.G.Ring.reads c.args.self.now.ring =
    c.pick.ensures.counts.0 ∙ ap (λ z. g.G.Ring.reads z.ring) c.self.view_is in
    let faults : g.G.Ring.faults c.pick.new.self ≡ g.G.Ring.faults c.args.self.now.ring =
    c.pick.ensures.counts.1 ∙ ap (λ z. g.G.Ring.faults z.ring) c.self.view_is in
    picked-from g.W.World.told c.args.self.now.claimed_ios c.take.new.self user x pages
    c.fill.result
    c.answer_of-raw.result (c.held.inside.claimed.0, c.answer.new.self)
    (g.G.Ring.reads c.args.self.now.ring) (g.G.Ring.reads c.fill.new.self)
    (g.G.Ring.faults c.args.self.now.ring) (g.G.Ring.faults c.fill.new.self)
    (ap (λ z. claimed_with_number user z.claimed_ios) (sym c.self.view_is) ∙ found)
    (c.take.ensures.others ∙ ap (λ z. without_claimed user z.claimed_ios) c.self.view_is)
    (ap (λ h. h.1.0) c.held.view_is) answered c.answer_of-raw.ensures room size told-answers
    (c.fill.ensures.reads ∙ ap (λ (n : ℕ). count_plus 1 n) reads)
    (subst (λ (n : ℕ). HasCause n (g.G.Ring.faults c.fill.new.self) c.fill.result) faults
    c.fill.ensures.cause)
