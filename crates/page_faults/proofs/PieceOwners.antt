-- The pieces of a page and the items that have them.
use Rattle.std.proofs.Common.{◌≡◌, ℕ, zero, suc, ◌+◌, ◌-◌, ◌<◌, ◌≤◌, List, [], ◌∷◌, ◌++◌, length}
use Rattle.std.proofs.Common.{get_or, arith, Bool, true, false, refl, sym, ◌∙◌, ap, subst, cond, add-one}
use Rattle.std.specs.Prelude.{replicate, Option, Some, None, nat_le, nat_lt, ◌==◌, ◌&&◌}
use Rattle.std.specs.Option.{option_or}
use Rattle.std.proofs.lemmas.Bool.{leb-true, leb-false, ltb-true, ltb-false, eqb-true, eqb-false}
use Rattle.std.proofs.lemmas.Bool.Decides.{nat_tests}
use Rattle.std.proofs.lemmas.List.{append-nil, get_or-replicate, length-replicate}
use Rattle.std.proofs.lemmas.List.Folds.{find-append}
use Rattle.page_check.specs.declared.fields.LinePointer.{LinePointer}
use Rattle.page_check.specs.declared.fields.PageHeader.{PageHeader}
use Rattle.page_check.specs.Fields.{header_of}
use Rattle.page_check.specs.LinePointers.{line_pointer_of}
use Rattle.heap_tuple.specs.Tuples.{is_normal}
use Rattle.page_faults.specs.declared.places.Place.TheVariants.{Outside}
use Rattle.page_faults.specs.Places.{AreOwners, owner_of, owner_number, first_owner, has_piece}
use Rattle.page_faults.specs.Places.{first_piece, end_piece, number_of, is_outside, place_of}
use Rattle.page_faults.specs.Places.{place_by, is_own, with_item, placed_items}

none_by : (owner : Option ℕ) → owner_number owner ≡ 0 → owner ≡ None
none_by None is = refl
none_by (Some index) is = absurd (omega arith)

some_by : (owner later : Option ℕ) → 0 < owner_number owner
    → Some (owner_number owner) ≡ number_of (option_or owner later)
some_by None later is = absurd (omega arith)
some_by (Some index) later is = refl

-- a piece that no item has
owner_of-none : (page items owners : List ℕ) (piece : ℕ) → AreOwners page items owners
    → piece < 1024 → get_or owners piece 0 ≡ 0 → owner_of page items piece ≡ None
owner_of-none page items owners piece are below free =
    none_by (owner_of page items piece) (sym (are.number piece below) ∙ free)

first_owner-step : (page items : List ℕ) (piece to : ℕ) → piece < to
    → first_owner page items piece (to - piece)
    ≡ option_or (owner_of page items piece) (first_owner page items (piece + 1) (to - (piece + 1)))
first_owner-step page items piece to below =
    let one : to - piece ≡ suc (to - (piece + 1)) = omega arith in
    ap (λ (n : ℕ). first_owner page items piece n) one

-- from a piece that no item has, the search goes on behind it
pub first_owner-free : (page items owners : List ℕ) (piece to : ℕ) → AreOwners page items owners
    → piece < to → to ≤ 1024 → get_or owners piece 0 ≡ 0
    → first_owner page items piece (to - piece)
    ≡ first_owner page items (piece + 1) (to - (piece + 1))
first_owner-free page items owners piece to are below within free =
    first_owner-step page items piece to below
    ∙ ap (λ (owner : Option ℕ). option_or owner
    (first_owner page items (piece + 1) (to - (piece + 1))))
    (owner_of-none page items owners piece are (omega arith) free)

-- and it ends at one that an item has
pub first_owner-had : (page items owners : List ℕ) (piece to : ℕ) → AreOwners page items owners
    → piece < to → to ≤ 1024 → 0 < get_or owners piece 0
    → Some (get_or owners piece 0) ≡ number_of (first_owner page items piece (to - piece))
first_owner-had page items owners piece to are below within had =
    let is = are.number piece (omega arith) in
    let later = first_owner page items (piece + 1) (to - (piece + 1)) in
    let some : 0 < owner_number (owner_of page items piece) = omega (arith, is) in
    ap (λ (n : ℕ). Some n) is ∙ some_by (owner_of page items piece) later some
    ∙ ap number_of (sym (first_owner-step page items piece to below))

pub first_owner-end : (page items : List ℕ) (piece to : ℕ) → to ≤ piece
    → None ≡ first_owner page items piece (to - piece)
first_owner-end page items piece to end =
    let none : to - piece ≡ 0 = omega arith in
    sym (ap (λ (n : ℕ). first_owner page items piece n) none)

or_first : (a b : Option ℕ) → option_or a b ≡ None → a ≡ None
or_first None b is = refl
or_first (Some x) b is = absurd (cc)

or_second : (a b : Option ℕ) → option_or a b ≡ None → b ≡ None
or_second None b is = is
or_second (Some x) b is = absurd (cc)

free_by : (page items : List ℕ) (from piece : ℕ) (same : Bool) → (from == piece) ≡ same
    → owner_of page items from ≡ None → (from + 1 ≤ piece → owner_of page items piece ≡ None)
    → from ≤ piece → owner_of page items piece ≡ None
free_by page items from piece true is first later low =
    ap (λ (n : ℕ). owner_of page items n) (sym (eqb-true from piece is)) ∙ first
free_by page items from piece false is first later low =
    let other : from ≡ piece → ⊥ = eqb-false from piece is in
    later (omega arith)

-- where the search ends nowhere, no item has one of the pieces
pub each_free : (page items : List ℕ) (more from piece : ℕ)
    → first_owner page items from more ≡ None → from ≤ piece → piece < from + more
    → owner_of page items piece ≡ None
each_free page items zero from piece none low high = absurd (omega arith)
each_free page items (suc more) from piece none low high =
    let later = first_owner page items (from + 1) more in
    let first = or_first (owner_of page items from) later none in
    let rest = or_second (owner_of page items from) later none in
    free_by page items from piece (from == piece) refl first
    (λ (next : from + 1 ≤ piece). each_free page items more (from + 1) piece rest next (omega arith))
    low

pub inside_fits : (header : PageHeader) (pointer : LinePointer) → is_outside header pointer ≡ false
    → (pointer.offset + pointer.length ≤ header.special) × (24 ≤ pointer.length)
unfolding is_outside
inside_fits header pointer inside = (grind (arith, nat_tests), grind (arith, nat_tests))

pub place_of-outside : (page items : List ℕ) (index : ℕ)
    → is_outside (header_of page) (line_pointer_of page index) ≡ true
    → place_of page items index ≡ Outside
unfolding place_of
place_of-outside page items index out = rw out refl

pub place_of-inside : (page items : List ℕ) (index : ℕ)
    → is_outside (header_of page) (line_pointer_of page index) ≡ false
    → place_of page items index
    ≡ place_by (number_of (first_owner page items (first_piece (line_pointer_of page index))
    (end_piece (line_pointer_of page index) - first_piece (line_pointer_of page index))))
unfolding place_of
place_of-inside page items index inside = rw inside refl

with_item-by : (page items : List ℕ) (index : ℕ) (normal own : Bool)
    → is_normal (line_pointer_of page index).kind ≡ normal
    → is_own (place_of page items index) ≡ own
    → with_item page items index ≡ items ++ cond (normal && own) (index ∷ []) []
unfolding with_item
with_item-by page items index normal own is place =
    ap (λ (b : Bool). items ++ cond (b && is_own (place_of page items index)) (index ∷ []) []) is
    ∙ ap (λ (b : Bool). items ++ cond (normal && b) (index ∷ []) []) place

placed_items-step : (page : List ℕ) (index : ℕ)
    → placed_items page (index + 1) ≡ with_item page (placed_items page index) index
placed_items-step page index = ap (λ (n : ℕ). placed_items page n) (add-one index)

-- an item that is not normal has no place
pub placed_items-other : (page : List ℕ) (index : ℕ)
    → is_normal (line_pointer_of page index).kind ≡ false
    → placed_items page (index + 1) ≡ placed_items page index
placed_items-other page index other =
    let items = placed_items page index in
    placed_items-step page index
    ∙ with_item-by page items index false (is_own (place_of page items index)) other refl
    ∙ append-nil items

none_placed : (normal : Bool) (items : List ℕ) (index : ℕ)
    → items ++ cond (normal && false) (index ∷ []) [] ≡ items
none_placed true items index = append-nil items
none_placed false items index = append-nil items

-- nor has one whose place is not its own
pub placed_items-unplaced : (page : List ℕ) (index : ℕ)
    → is_own (place_of page (placed_items page index) index) ≡ false
    → placed_items page (index + 1) ≡ placed_items page index
placed_items-unplaced page index place =
    let items = placed_items page index in
    let normal = is_normal (line_pointer_of page index).kind in
    placed_items-step page index
    ∙ with_item-by page items index normal false refl place
    ∙ none_placed normal items index

pub placed_items-placed : (page : List ℕ) (index : ℕ)
    → is_normal (line_pointer_of page index).kind ≡ true
    → is_own (place_of page (placed_items page index) index) ≡ true
    → placed_items page (index + 1) ≡ placed_items page index ++ index ∷ []
placed_items-placed page index normal place =
    placed_items-step page index
    ∙ with_item-by page (placed_items page index) index true true normal place

pub owner_of-append : (page items : List ℕ) (index piece : ℕ)
    → owner_of page (items ++ index ∷ []) piece
    ≡ option_or (owner_of page items piece) (cond (has_piece page piece index) (Some index) None)
unfolding owner_of
owner_of-append page items index piece = find-append (has_piece page piece) items (index ∷ [])

or_none : (a : Option ℕ) → option_or a None ≡ a
or_none None = refl
or_none (Some x) = refl

pub has_piece-by : (page : List ℕ) (piece index : ℕ) (low high : Bool)
    → nat_le (first_piece (line_pointer_of page index)) piece ≡ low
    → nat_lt piece (end_piece (line_pointer_of page index)) ≡ high
    → has_piece page piece index ≡ (low && high)
unfolding has_piece
has_piece-by page piece index low high is so = rw (is, so) refl

unchanged : (page items old : List ℕ) (index piece number : ℕ) → has_piece page piece index ≡ false
    → get_or old piece 0 ≡ owner_number (owner_of page items piece) → number ≡ get_or old piece 0
    → number ≡ owner_number (owner_of page (items ++ index ∷ []) piece)
unchanged page items old index piece number other was same =
    same ∙ was
    ∙ ap owner_number (sym (owner_of-append page items index piece
    ∙ ap (λ (b : Bool). option_or (owner_of page items piece) (cond b (Some index) None)) other
    ∙ or_none (owner_of page items piece)))

changed : (page items : List ℕ) (index piece number : ℕ) → has_piece page piece index ≡ true
    → owner_of page items piece ≡ None → number ≡ index + 1
    → number ≡ owner_number (owner_of page (items ++ index ∷ []) piece)
changed page items index piece number one free same =
    same
    ∙ ap owner_number (sym (owner_of-append page items index piece
    ∙ ap (λ (b : Bool). option_or (owner_of page items piece) (cond b (Some index) None)) one
    ∙ ap (λ (owner : Option ℕ). option_or owner (Some index)) free))

-- what is written for an item that takes pieces that no other has
pub record Takes (from to number : ℕ) (old new : List ℕ) : Type 0 where
  pub size : length new ≡ length old
  pub before : (piece : ℕ) → piece < from → get_or new piece 0 ≡ get_or old piece 0
  pub there : (piece : ℕ) → from ≤ piece → piece < to → get_or new piece 0 ≡ number
  pub behind : (piece : ℕ) → from ≤ piece → to ≤ piece → get_or new piece 0 ≡ get_or old piece 0

number_by : (page items old new : List ℕ) (index piece : ℕ) (low high : Bool)
    → AreOwners page items old → piece < 1024
    → Takes (first_piece (line_pointer_of page index)) (end_piece (line_pointer_of page index))
    (index + 1) old new
    → first_owner page items (first_piece (line_pointer_of page index))
    (end_piece (line_pointer_of page index) - first_piece (line_pointer_of page index)) ≡ None
    → nat_le (first_piece (line_pointer_of page index)) piece ≡ low
    → nat_lt piece (end_piece (line_pointer_of page index)) ≡ high
    → get_or new piece 0 ≡ owner_number (owner_of page (items ++ index ∷ []) piece)
number_by page items old new index piece true true are below takes free is so =
    let from = first_piece (line_pointer_of page index) in
    let to = end_piece (line_pointer_of page index) in
    let low : from ≤ piece = leb-true from piece is in
    let high : piece < to = ltb-true piece to so in
    let within : piece < from + (to - from) = omega arith in
    changed page items index piece (get_or new piece 0) (has_piece-by page piece index true true is so)
    (each_free page items (to - from) from piece free low within) (takes.there piece low high)
number_by page items old new index piece true false are below takes free is so =
    let from = first_piece (line_pointer_of page index) in
    let to = end_piece (line_pointer_of page index) in
    let low : from ≤ piece = leb-true from piece is in
    let high : to ≤ piece = ltb-false piece to so in
    unchanged page items old index piece (get_or new piece 0)
    (has_piece-by page piece index true false is so) (are.number piece below)
    (takes.behind piece low high)
number_by page items old new index piece false high are below takes free is so =
    let from = first_piece (line_pointer_of page index) in
    let low : piece < from = leb-false from piece is in
    unchanged page items old index piece (get_or new piece 0)
    (has_piece-by page piece index false high is so) (are.number piece below)
    (takes.before piece low)

pub owners_with : (page items old new : List ℕ) (index : ℕ) → AreOwners page items old
    → Takes (first_piece (line_pointer_of page index)) (end_piece (line_pointer_of page index))
    (index + 1) old new
    → first_owner page items (first_piece (line_pointer_of page index))
    (end_piece (line_pointer_of page index) - first_piece (line_pointer_of page index)) ≡ None
    → AreOwners page (items ++ index ∷ []) new
owners_with page items old new index are takes free = record {
  size = takes.size ∙ are.size;
  number = λ piece below. number_by page items old new index piece
      (nat_le (first_piece (line_pointer_of page index)) piece)
      (nat_lt piece (end_piece (line_pointer_of page index))) are below takes free refl refl;
}

pub owners_of_same : (page items others owners : List ℕ) → others ≡ items
    → AreOwners page items owners → AreOwners page others owners
owners_of_same page items others owners same are =
    subst (λ (list : List ℕ). AreOwners page list owners) (sym same) are

-- a page without items, in the table as it begins
pub owners_none : (page : List ℕ) → AreOwners page [] (replicate 1024 0)
unfolding owner_of
owners_none page = record {
  size = length-replicate {A = ℕ} 1024 0;
  number = λ piece below. get_or-replicate {A = ℕ} 1024 piece 0 0 below;
}
