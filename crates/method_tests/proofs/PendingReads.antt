-- Reads of the tests that are pending in a ring.
use Rattle.std.proofs.Common.{◌≡◌, ◌≢◌, ℕ, List, [], ◌∷◌, ◌++◌, refl, sym, ap, ◌∙◌, Option, Some, None}
use Rattle.std.proofs.Common.{⊎_elim}
use Rattle.method_ring.specs.declared.ring.Entry.{Entry}
use Rattle.method_ring.specs.Pending.{pending_entry, without_entry, entry_user, IsFilledBy}
use Rattle.method_tests.specs.PendingReads.{AreReadInto}
use Rattle.method_ring.proofs.NumberedLookup.{found-in, rest-in, in-pushed}

-- a read that is pending can be filled, where each asks for so many pages
filled-by : (o : Option Entry) (n pages : ℕ) (es : List Entry) → AreReadInto pages es
    → pending_entry n es ≡ o → o ≢ None → IsFilledBy o pages
filled-by None n pages es all is some = absurd (some refl)
filled-by (Some x) n pages es all is some = sym (all x (found-in entry_user n es x is))

pub is-filled : (n pages : ℕ) (es : List Entry) → AreReadInto pages es → pending_entry n es ≢ None
    → IsFilledBy (pending_entry n es) pages
is-filled n pages es all some = filled-by (pending_entry n es) n pages es all refl some

pub are-pushed : (pages : ℕ) (es : List Entry) (x : Entry) → AreReadInto pages es
    → x.count ≡ pages → AreReadInto pages (es ++ x ∷ [])
are-pushed pages es x all is e i = ⊎_elim (λ old. all e old)
    (λ (same : x ≡ e). ap (λ (z : Entry). z.count) (sym same) ∙ is) (in-pushed es x e i)

pub are-left : (n pages : ℕ) (es : List Entry) → AreReadInto pages es
    → AreReadInto pages (without_entry n es)
are-left n pages es all e i = all e (rest-in entry_user n es e i)
