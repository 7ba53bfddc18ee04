use Rattle.std.proofs.Common.{◌<◌, ℕ, List, length, refl, sym, ap, ◌∙◌, subst, arith}
use Rattle.aio_word.specs.declared.Known.{Known}
use Rattle.aio_word.specs.declared.WaitRef.{WaitRef}
use Rattle.aio_word.specs.Stands.{IsIn}
use Rattle.aio_word.specs.Tokens.{IsClaimed}
use Rattle.aio_handle.specs.Labels.{bound_label}
use Rattle.aio_callback.specs.ReadIoView.{record_aim}
use Rattle.method_ring.specs.ClaimedIos.{ClaimedIo, AllClaimedIos}
use Rattle.method_ring.proofs.NumberedLookup.{in-held, one-fewer}
use Rattle.method_ring.proofs.GroupClaims.{held-without}
use Rattle.aio_handle.proofs.ListsGrow.{appends-none}
use Rattle.method_ring.proofs.GroupCompletion.{all_finishes-none, all_finishes-more}
use Rattle.method_ring.proofs.finish.finish.Goals as goal

pub loop-claimed-init : goal.loop-claimed-init
loop-claimed-init g c = record {
  table = c.requires.table;
  same = (refl, refl, refl);
  told = refl;
  relations = refl;
  holds = c.requires.all_claimed;
  finishes = all_finishes-none g.W.World.told c.args.group.now.claimed_ios c.args.actor.now.known
      (g.P.Places.finished c.args.places.now) (g.G.Ring.reads c.args.group.now.ring)
      (g.G.Ring.faults c.args.group.now.ring) (appends-none c.args.actor.now.known);
}

pub complete-requires-clause-token : goal.complete-requires-clause-token
complete-requires-clause-token g c =
    let k = c.in-Some.ensures.some in
    let p : Known = c.loop-claimed.actor.known in
    let h = c.loop-claimed.invariant.holds.each k.from
    (in-held k.user c.loop-claimed.group.claimed_ios k.from k.was_claimed) in (
      subst (λ (z : WaitRef). IsClaimed p z) (sym k.reference_is) h.claimed,
      subst (λ (z : WaitRef). IsIn (z, record_aim c.in-Some.claimed.1) p.aims) (sym k.reference_is)
          (subst (λ (a : List ℕ). IsIn (k.from.1.0, a) p.aims) (sym k.aim) h.aim),
    )

pub complete-requires-clause-label : goal.complete-requires-clause-label
complete-requires-clause-label g c =
    let k = c.in-Some.ensures.some in
    let h = c.loop-claimed.invariant.holds.each k.from
    (in-held k.user c.loop-claimed.group.claimed_ios k.from k.was_claimed) in
    k.label ∙ (h.label ∙ ap (λ (z : WaitRef). bound_label z.handle z.generation)
    (sym k.reference_is))

pub complete-requires-clause-aimed : goal.complete-requires-clause-aimed
complete-requires-clause-aimed g c =
    let k = c.in-Some.ensures.some in
    let h = c.loop-claimed.invariant.holds.each k.from
    (in-held k.user c.loop-claimed.group.claimed_ios k.from k.was_claimed) in (
      k.aimed ∙ h.fits.aimed,
      subst (λ (n : ℕ). n < g.W.World.relations) (sym k.relation) h.fits.within,
    )

pub loop-claimed-smaller : goal.loop-claimed-smaller
loop-claimed-smaller g c =
    let k = c.in-Some.ensures.some in
    let a = one-fewer k.user c.loop-claimed.group.claimed_ios k.from k.was_claimed in
    let b = ap length k.others in
    omega arith

pub loop-claimed-preserved : goal.loop-claimed-preserved
loop-claimed-preserved g c =
    let k = c.in-Some.ensures.some in
    let i = c.loop-claimed.invariant in
    let same = c.complete.ensures.same in
    let told = c.next.ensures.told in
    let p : Known = c.loop-claimed.actor.known in
    let q : Known = c.complete.new.actor.known in
    record {
      table = (same.0 ∙ i.table.0, same.1 ∙ i.table.1);
      same = (same.0 ∙ i.same.0, same.1 ∙ i.same.1, same.2 ∙ i.same.2);
      told = told.0 ∙ i.told;
      relations = told.1 ∙ i.relations;
      holds = subst (λ (hs : List ClaimedIo). AllClaimedIos g.W.World q hs)
          (sym k.others) (held-without g.W.World p q k.user
          c.loop-claimed.group.claimed_ios k.from k.was_claimed
          (λ t ne. c.complete.ensures.other_claims_unchanged t (λ e. ne (e ∙ k.reference_is)))
          i.holds);
      finishes = all_finishes-more g.W.World.told c.args.group.now.claimed_ios
          c.loop-claimed.group.claimed_ios
          c.next.new.self.claimed_ios c.args.actor.now.known p q
          (g.P.Places.finished c.args.places.now) (g.P.Places.finished c.loop-claimed.places)
          (g.P.Places.finished c.complete.new.places) c.in-Some.claimed c.in-Some.raw
          (g.G.Ring.reads c.args.group.now.ring) (g.G.Ring.reads c.loop-claimed.group.ring)
          (g.G.Ring.reads c.next.new.self.ring) (g.G.Ring.faults c.args.group.now.ring)
          (g.G.Ring.faults c.loop-claimed.group.ring) (g.G.Ring.faults c.next.new.self.ring)
          i.finishes k c.complete.ensures.read_completed;
    }
