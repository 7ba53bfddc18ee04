-- Several tokens of one actor.
use Rattle.std.specs.Prelude.{◌≢◌, List, [], ◌∷◌}
use Rattle.aio_word.specs.declared.Known.{Known}
use Rattle.aio_word.specs.declared.WaitRef.{WaitRef}
use Rattle.aio_word.specs.Stands.{IsIn}

-- each token stands so in this actor's list, and no two are of one incarnation. `of` tells the
-- incarnation of a token
abbrev pub AreDistinctTokens : {A : Type 0} → (A → WaitRef) → (Known → WaitRef → Type 0) → Known
    → List A
    → Type 0
AreDistinctTokens reference_of Stands p [] = Unit {0}
AreDistinctTokens {A} reference_of Stands p (t ∷ ts) = Stands p (reference_of t) × ((u : A) → IsIn u ts → reference_of u ≢ reference_of t)
    × AreDistinctTokens reference_of Stands p ts
