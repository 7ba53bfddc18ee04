-- The seats and the rings of a new scan's backends.
use Rattle.std.proofs.Common.{◌≡◌, ℕ, zero, suc, ◌+◌, ◌-◌, ◌<◌, ◌≤◌, List, [], ◌∷◌, length, arith, refl}
use Rattle.std.specs.Prelude.{Bool, Option, Some, None, cond, false, is_some, true, slice_get}

-- the seats that the backends leave
pub enough_seats : (queue work : Bool) (all backends workers left : ℕ)
    → all ≡ cond queue (backends + cond queue (cond work workers 0) 0) 0 → left ≡ all - backends
    → cond queue (cond work workers 0) 0 ≤ left
enough_seats true work all backends workers left is le = omega (arith, is, le)
enough_seats false work all backends workers left is le = omega arith

-- beside workers backends have seats
pub beside_workers : (queue : Bool) (workers : ℕ) → 1 ≤ cond queue workers 0 → queue ≡ true
beside_workers true workers some = refl
beside_workers false workers some = absurd (omega (arith, some))

-- each backend has one where the method wants them, and none has one else
pub has_wanted : {B : Type 0} (l : List B) (k : ℕ) (o : Option B) (wants : Bool) (backends more : ℕ)
    → slice_get l k ≡ o → k < backends → length l ≡ cond wants (backends + more) 0
    → is_some o ≡ wants
has_wanted [] k o true backends more is lt many = absurd (omega (arith, lt, many))
has_wanted [] k None false backends more is lt many = refl
has_wanted [] k (Some b) false backends more is lt many = absurd (cc)
has_wanted (x ∷ l) k o false backends more is lt many = absurd (omega (arith, many))
has_wanted (x ∷ l) zero None true backends more is lt many = absurd (cc)
has_wanted (x ∷ l) zero (Some b) true backends more is lt many = refl
has_wanted (x ∷ l) (suc k) o true zero more is lt many = absurd (omega (arith, lt))
has_wanted (x ∷ l) (suc k) o true (suc n) more is lt many =
    has_wanted l k o true n more is (omega (arith, lt)) (omega (arith, many))
