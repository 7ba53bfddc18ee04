use Rattle.std.proofs.Common.{◌≡◌, ◌<◌, ◌≤◌, ℕ, get_or, length}
use Rattle.page_faults.proofs.places.set_owner.Given as goal

abbrev pub invariant-loop-piece : goal.invariant-loop-piece
invariant-loop-piece l = record {
  size : length l.owners ≡ length l.fn.owners;
  before : (piece : ℕ) → piece < l.from → get_or l.owners piece 0 ≡ get_or l.fn.owners piece 0;
  there : (piece : ℕ) → l.from ≤ piece → piece < l.piece → get_or l.owners piece 0 ≡ l.number;
  behind : (piece : ℕ) → l.from ≤ piece → l.piece ≤ piece
      → get_or l.owners piece 0 ≡ get_or l.fn.owners piece 0;
}
