use Rattle.std.proofs.Common.{rules, List, ◌≤◌, arith, subst}
use Rattle.std.proofs.lemmas.List.{take_all}
use Rattle.std.proofs.Math.Nat.{min-le_left}
use Rattle.scan_rounds.specs.Rounds.{AllBackendsHaveRoom}
use Rattle.scan_rounds.proofs.LeastRoom.{least_next, greatest_next, least_is}
use Rattle.scan_rounds.proofs.counts.least_room.Goals as goal

pub loop-backend-preserved : goal.loop-backend-preserved
loop-backend-preserved g c = record {
  small = (let m = min-le_left c.loop-backend.least c.room.result in omega arith);
  all_have_room = least_next c.loop-backend.least c.room.result c.min-least.result
      c.loop-backend.backend-index c.args.backends.now c.backend-item.result (search rules)
      (search rules) c.loop-backend.invariant.all_have_room c.room.ensures (search rules);
  greatest = greatest_next c.loop-backend.least c.room.result c.min-least.result
      c.loop-backend.backend-index c.args.backends.now c.backend-item.result (search rules)
      (search rules) c.loop-backend.invariant.greatest c.room.ensures (search rules);
}

pub returns : goal.returns
returns g c =
    let i = c.loop-backend.invariant in
    let all = take_all c.loop-backend.backend-index c.args.backends.now (search rules) in
    record {
      least = least_is c.loop-backend.least c.args.backends.now c.requires.some i.small
          (subst (λ (bs : List _). AllBackendsHaveRoom c.loop-backend.least bs) all i.all_have_room)
          (λ n small. subst (λ (bs : List _). AllBackendsHaveRoom n bs → n ≤ c.loop-backend.least)
          all
          (i.greatest n small));
    }
