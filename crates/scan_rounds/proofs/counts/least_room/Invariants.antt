use Rattle.std.proofs.Common.{ℕ, ◌^◌, ◌<◌, ◌≤◌, take}
use Rattle.scan_rounds.specs.Rounds.{AllBackendsHaveRoom}
use Rattle.scan_rounds.proofs.counts.least_room.Given as goal

abbrev pub invariant-loop-backend : goal.invariant-loop-backend
invariant-loop-backend g l = record {
  small : l.least < 2 ^ 64;
  all_have_room : AllBackendsHaveRoom l.least (take l.backend-index l.backends);
  greatest : (n : ℕ) → n < 2 ^ 64 → AllBackendsHaveRoom n (take l.backend-index l.backends) → n
      ≤ l.least;
}
