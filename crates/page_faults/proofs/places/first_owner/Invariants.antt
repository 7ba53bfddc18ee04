use Rattle.std.proofs.Common.{◌≡◌, ◌-◌, List, ℕ}
use Rattle.page_faults.specs.Places.{AreOwners, first_owner}
use Rattle.page_faults.proofs.places.first_owner.Given as goal

abbrev pub invariant-loop-piece : goal.invariant-loop-piece
invariant-loop-piece l =
    (page items : List ℕ) → AreOwners page items l.owners
    → first_owner page items l.piece (l.to - l.piece)
    ≡ first_owner page items l.from (l.to - l.from)
