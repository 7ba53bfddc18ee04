use Rattle.std.proofs.Common.{◌≡◌, ◌≢◌, ℕ, ◌+◌, ◌≤◌, ◌++◌, [], ◌∷◌, List, sym, subst, arith, rules}
use Rattle.std.specs.List.{All}
use Rattle.std.proofs.lemmas.List.Elements.{All-push}
use Rattle.method_worker.specs.QueueViews.{QueueView, SeatView, IsNewSeat, IsSeatOf}
use Rattle.method_worker.proofs.queue.SubmitQueue.open.Goals as goal

-- a seat of a queue of two seats is one of a queue of several
of-several : (q : QueueView) (n : ℕ) (s : SeatView) → n ≢ 1 → IsNewSeat q 2 s → IsNewSeat q n s
of-several q n s ne i = record {
  seat_of_queue = i.seat_of_queue;
  is_only_seat = λ e. absurd (ne e);
  pushes = i.pushes;
  pops = i.pops;
  loads = i.loads;
  closes = i.closes;
}

new-more : (q : QueueView) (n : ℕ) (ss ss' : List SeatView) (s : SeatView) → ss' ≡ ss ++ s ∷ []
    → All (IsNewSeat q n) ss → IsNewSeat q n s → All (IsNewSeat q n) ss'
new-more q n ss ss' s e all one = subst (λ (l : List SeatView). All (IsNewSeat q n) l) (sym e)
    (All-push (IsNewSeat q n) ss s all one)

-- the first seat, with the parts that are left
first-new : (q : QueueView) (n m : ℕ) (s : SeatView) → IsSeatOf q s → s.parts + m ≡ 49
    → n + 1 ≤ m + 1
    → m ≤ n → s.pushes ≡ [] → s.pops ≡ [] → s.loads ≡ [] → s.closes ≡ [] → IsNewSeat q n s
first-new q n m s of parts lo hi pushes pops loads closes = record {
  seat_of_queue = of;
  is_only_seat = λ e. omega (arith, parts, lo, hi, e);
  pushes = pushes;
  pops = pops;
  loads = loads;
  closes = closes;
}

pub loop-number-preserved : goal.loop-number-preserved
loop-number-preserved g c =
    let i = c.loop-number.invariant in
    let more = c.loop-number-test.true in
    let ne : c.args.seats ≢ 1 = λ e. omega (arith, i.count) in
    record {
      of = search rules;
      parts = omega (arith, i.parts, c.seat-seat.ensures.parts);
      pushes = search rules;
      pops = search rules;
      loads = search rules;
      closes = search rules;
      count = search rules;
      all = new-more _ c.args.seats c.loop-number.all.items _ c.seat-seat.result
          c.push_reserved.ensures.items
          i.all (of-several _ _ _ ne c.seat-seat.ensures.new);
    }

pub returns-clause-seats : goal.returns-clause-seats
returns-clause-seats g c =
    let l = c.loop-number in
    let i = l.invariant in
    new-more _ c.args.seats l.all.items _ l.first c.push_reserved-2.ensures.items i.all
    (first-new _ c.args.seats l.number l.first i.of i.parts (search rules) (search rules)
    i.pushes i.pops i.loads i.closes)
