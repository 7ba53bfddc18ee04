-- The place of a normal item, as it is looked up among the pieces.
use Rattle.std.proofs.Common.{◌≡◌, ℕ, ◌+◌, ◌-◌, List, ◌∙◌, ap, subst, sym, refl, false}
use Rattle.std.specs.Prelude.{Option, Some, None}
use Rattle.page_check.specs.declared.fields.LinePointer.{LinePointer}
use Rattle.page_check.specs.Fields.{header_of}
use Rattle.page_check.specs.LinePointers.{line_pointer_of}
use Rattle.page_faults.specs.Places.{first_owner, first_piece, end_piece, number_of, is_outside}
use Rattle.page_faults.specs.Places.{place_by, place_of}
use Rattle.page_faults.proofs.PieceOwners.{place_of-inside, Takes}

-- the place of an item that is not outside, by what was found at its pieces
pub place_of-found : (page items : List ℕ) (index from to : ℕ) (pointer : LinePointer)
    (found : Option ℕ)
    → pointer ≡ line_pointer_of page index → is_outside (header_of page) pointer ≡ false
    → from ≡ first_piece pointer → to ≡ end_piece pointer
    → found ≡ number_of (first_owner page items from (to - from))
    → place_by found ≡ place_of page items index
place_of-found page items index from to pointer found is inside first last so =
    let within : is_outside (header_of page) (line_pointer_of page index) ≡ false =
    sym (ap (is_outside (header_of page)) is) ∙ inside in
    ap place_by so
    ∙ ap (λ (n : ℕ). place_by (number_of (first_owner page items n (to - n)))) first
    ∙ ap (λ (n : ℕ). place_by (number_of (first_owner page items (first_piece pointer)
    (n - first_piece pointer)))) last
    ∙ ap (λ (p : LinePointer). place_by (number_of (first_owner page items (first_piece p)
    (end_piece p - first_piece p)))) is
    ∙ sym (place_of-inside page items index within)

-- pieces that no item has are those of an item with its own place
pub free_pieces : (page items : List ℕ) (index from to : ℕ) (pointer : LinePointer)
    → pointer ≡ line_pointer_of page index
    → from ≡ first_piece pointer → to ≡ end_piece pointer
    → None ≡ number_of (first_owner page items from (to - from))
    → first_owner page items (first_piece (line_pointer_of page index))
    (end_piece (line_pointer_of page index) - first_piece (line_pointer_of page index)) ≡ None
free_pieces page items index from to pointer is first last so =
    sym (ap (λ (p : LinePointer). first_owner page items (first_piece p)
    (end_piece p - first_piece p)) is)
    ∙ sym (ap (λ (n : ℕ). first_owner page items (first_piece pointer) (n - first_piece pointer)) last)
    ∙ sym (ap (λ (n : ℕ). first_owner page items n (to - n)) first)
    ∙ none_of (first_owner page items from (to - from)) (sym so)
  where
    none_of : (owner : Option ℕ) → number_of owner ≡ None → owner ≡ None
    none_of None is = refl
    none_of (Some n) is = absurd (cc)

pub takes_of : (page old new : List ℕ) (index from to number : ℕ) (pointer : LinePointer)
    → pointer ≡ line_pointer_of page index → from ≡ first_piece pointer → to ≡ end_piece pointer
    → number ≡ index + 1 → Takes from to number old new
    → Takes (first_piece (line_pointer_of page index)) (end_piece (line_pointer_of page index))
    (index + 1) old new
takes_of page old new index from to number pointer is first last same takes =
    let from_is = first ∙ ap first_piece is in
    let to_is = last ∙ ap end_piece is in
    subst (λ (n : ℕ). Takes (first_piece (line_pointer_of page index))
    (end_piece (line_pointer_of page index)) n old new) same
    (subst (λ (n : ℕ). Takes (first_piece (line_pointer_of page index)) n number old new) to_is
    (subst (λ (n : ℕ). Takes n to number old new) from_is takes))
