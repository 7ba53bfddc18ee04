-- Lists that are joined, and what begins them.
use Rattle.std.proofs.Common.{◌≡◌, ℕ, zero, suc, ◌+◌, ◌<◌, ◌≤◌, List, [], ◌∷◌, ◌++◌}
use Rattle.std.proofs.Common.{length, take, drop, refl, sym, ap, ◌∙◌, arith}
use Rattle.std.proofs.Common.{length-append}
use Rattle.std.specs.Prelude.{slice_get}
use Rattle.std.proofs.lemmas.List.{take_at, drop_at, take-append-le}
use Rattle.std.proofs.lemmas.List.{drop-append-le, take-append-drop}
use Rattle.page_check.specs.IsAnswer.{IsPrefix}
use Rattle.std.specs.List.{range_with_len}

-- where a list is split in two ways, the shorter front is taken from the longer one
pub front_taken : {X : Type 0} (front back pages rest : List X) → front ++ back ≡ pages ++ rest
    → length front ≤ length pages → front ≡ take (length front) pages
front_taken {X} front back pages rest same short =
    let n = length front in
    sym (take_at front back n refl) ∙ ap (λ (l : List X). take n l) same
    ∙ take-append-le n pages rest short

-- and what the longer front has beyond it begins the other back
pub back_dropped : {X : Type 0} (front back pages rest : List X) → front ++ back ≡ pages ++ rest
    → length front ≤ length pages → back ≡ drop (length front) pages ++ rest
back_dropped {X} front back pages rest same short =
    let n = length front in
    sym (drop_at front back n refl) ∙ ap (λ (l : List X). drop n l) same
    ∙ drop-append-le n pages rest short

-- what begins a joined list, and is no longer than its front, begins the front
pub begins_front : {X : Type 0} (pages front back : List X) → IsPrefix pages (front ++ back)
    → length pages ≤ length front → IsPrefix pages front
begins_front {X} pages front back begins short =
    let n = length pages in
    let taken = front_taken pages begins.0 front back (sym begins.1) short in (
      drop n front,
      sym (take-append-drop n front) ∙ ap (λ (l : List X). l ++ drop n front) (sym taken),
    )

-- an element of the front of a joined list
pub slice_get_within : {X : Type 0} (xs ys : List X) (k : ℕ) → k < length xs
    → slice_get (xs ++ ys) k ≡ slice_get xs k
slice_get_within [] ys k below = absurd (omega arith)
slice_get_within (x ∷ xs) ys zero below = refl
slice_get_within (x ∷ xs) ys (suc k) below = slice_get_within xs ys k (omega arith)

-- no more begins a list than it has
pub begins_within : {X : Type 0} (front xs : List X) → IsPrefix front xs → length front ≤ length xs
begins_within front xs begins =
    omega (arith, ap length begins.1, length-append front begins.0)

-- numbers from one on, and then those behind them
pub range_append : (from c d : ℕ)
    → range_with_len from (c + d) ≡ range_with_len from c ++ range_with_len (from + c) d
range_append from zero d =
    let none : from ≡ from + 0 = omega arith in
    let all : 0 + d ≡ d = omega arith in
    ap (range_with_len from) all ∙ ap (λ (a : ℕ). range_with_len a d) none
range_append from (suc c) d =
    let next : from + 1 + c ≡ from + suc c = omega arith in
    let more : suc c + d ≡ suc (c + d) = omega arith in
    ap (range_with_len from) more ∙ ap (λ (l : List ℕ). from ∷ l) (range_append (from + 1) c d)
    ∙ ap (λ (a : ℕ). range_with_len from (suc c) ++ range_with_len a d) next
