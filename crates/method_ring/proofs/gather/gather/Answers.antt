use Rattle.std.proofs.Common.{ℕ, refl, sym, ◌∙◌, subst}
use Rattle.aio_word.specs.declared.Known.{Known}
use Rattle.method_ring.specs.ClaimedIos.{NumbersBelow}
use Rattle.method_ring.specs.RingRunner.{group_claims}
use Rattle.method_ring.proofs.GroupClaims.{gathers-none, gathers-then}
use Rattle.method_ring.proofs.PoppedReferences.{pops-none, pops-one}
use Rattle.method_ring.proofs.gather.gather.Goals as goal

pub loop-popped-init : goal.loop-popped-init
loop-popped-init g c = record {
  queue = c.requires.queue;
  seat = (refl, refl, refl);
  table = c.requires.table;
  same = (refl, refl, refl);
  told = refl;
  relations = refl;
  reads = refl;
  faults = refl;
  gathers = gathers-none g.W.World c.args.actor.now.known
      c.args.group.now.claimed_ios
      (subst (λ (n : ℕ). NumbersBelow n c.args.group.now.claimed_ios) (sym c.requires.one_claimed)
      c.requires.numbers)
      c.requires.all_claimed;
  pops = pops-none c.args.seat.now c.args.actor.now.known;
}

pub loop-popped-preserved : goal.loop-popped-preserved
loop-popped-preserved g c =
    let i = c.loop-popped.invariant in
    let seat = c.pop.ensures.same in
    let same = c.join.ensures.same in
    let told = c.join.ensures.told in
    let counts = c.join.ensures.counts in
    let now = c.join.ensures.gathers in
    let p : Known = c.args.actor.now.known in
    let q : Known = c.loop-popped.actor.known in
    let r : Known = c.join.new.actor.known in
    let (word, popped) = c.in-Entry.ensures.pop_answers in
    record {
      queue = (seat.0 ∙ i.queue.0, seat.1 ∙ i.queue.1);
      seat = (seat.0 ∙ i.seat.0, seat.1 ∙ i.seat.1, seat.2 ∙ i.seat.2);
      table = (same.0 ∙ i.table.0, same.1 ∙ i.table.1);
      same = (same.0 ∙ i.same.0, same.1 ∙ i.same.1, same.2 ∙ i.same.2);
      told = told.0 ∙ i.told;
      relations = told.1 ∙ i.relations;
      reads = counts.0 ∙ i.reads;
      faults = counts.1 ∙ i.faults;
      gathers = gathers-then g.W.World c.loop-popped.popped 1 p q r
          c.args.group.now.claimed_ios c.loop-popped.group.claimed_ios c.join.new.group.claimed_ios
          i.gathers now;
      pops = pops-one c.loop-popped.popped word c.in-Entry.reference
          (group_claims i.gathers.others) (group_claims now.others) c.args.seat.now
          c.loop-popped.seat
          c.pop.new.seat p q r i.pops i.gathers.marks_grow popped.0 now.marks_grow
          c.join.ensures.claim_tried;
    }
