use Rattle.std.proofs.Common.{ℕ, ◌∙◌, arith, subst}
use Rattle.scan_rounds.specs.OpenedScan.{HasEmptyLists}
use Rattle.scan_rounds.proofs.memory.Memory.open.Goals as goal

pub returns : goal.returns
returns g c =
    let shared = c.in_ok-shared.ensures in
    let rings = c.in_ok-rings.ensures in
    let many = c.ring_count.ensures in
    record {
      config = shared.config;
      frames = shared.frames;
      actors_are = shared.actors.1;
      actors = shared.actors.0;
      seats_are = omega (arith, shared.seats.1, rings.left, many);
      seats = c.open_rings.ensures.seats c.in_ok-shared.shared.queue shared.seats.0;
      rings_are = rings.count ∙ many;
      rings = rings.rings c.in_ok-shared.shared.queue shared.seats.0;
      desks_are = c.in_ok-open_desks.ensures.count;
      desks = c.in_ok-open_desks.ensures.desks;
      lists = subst (λ (n : ℕ). HasEmptyLists c.args.settings.now.backends n c.in_ok-open.field-0)
          c.worker_count.ensures c.in_ok-open.ensures;
    }
