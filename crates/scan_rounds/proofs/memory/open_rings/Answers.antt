use Rattle.std.proofs.Common.{◌≡◌, [], rules, sym, subst, arith}
use Rattle.std.specs.Prelude.{Option, Some, IfSome}
use Rattle.std.specs.List.{All}
use Rattle.std.proofs.lemmas.List.Elements.{All-pop, All-push}
use Rattle.method_worker.specs.QueueViews.{QueueView, SeatView, IsSeatOf}
use Rattle.scan_rounds.specs.Rings.{IsRingOf}
use Rattle.scan_rounds.specs.declared.ring.IdleRingState.{IdleRingState}
use Rattle.scan_rounds.proofs.memory.open_rings.Goals as goal

ring_of : {W : Type 0} (q : QueueView) (r : IdleRingState W) (s : SeatView) (o : Option SeatView)
    → o ≡ Some s → IfSome o (IsSeatOf q) → r.seat ≡ s → r.room ≡ [] → IsRingOf q r
ring_of q r s o is of seat room =
    (subst (λ x. IsSeatOf q x) (sym seat) (subst (λ x. IfSome x (IsSeatOf q)) is of), room)

pub returns-in_err-open-clause-seats : goal.returns-in_err-open-clause-seats
returns-in_err-open-clause-seats g c q all =
    (All-pop (IsSeatOf q) _ _ _ c.pop.ensures.items (c.loop.invariant.seats q all)).0

pub loop-preserved : goal.loop-preserved
loop-preserved g c = record {
  so_far = search rules;
  capacity = search rules;
  left = omega (arith, c.loop.invariant.left, c.in-Some.ensures.cases);
  seats = λ q all.
      (All-pop (IsSeatOf q) _ _ _ c.pop.ensures.items (c.loop.invariant.seats q all)).0;
  rings = λ q all.
      (let popped = All-pop (IsSeatOf q) _ _ _ c.pop.ensures.items
      (c.loop.invariant.seats q all) in
      subst (λ rs. All (IsRingOf q) rs) (sym c.push_reserved.ensures.items)
      (All-push (IsRingOf q) c.loop.rings.items c.in_ok-open.field-0
      (c.loop.invariant.rings q all)
      (ring_of q c.in_ok-open.field-0 c.in-Some.seat c.pop.result c.in-Some.is popped.1
      c.in_ok-open.ensures.0 c.in_ok-open.ensures.1)));
}
