use Rattle.std.proofs.Common.{[], ◌∷◌, ◌++◌, refl, ◌≡◌, ◌∙◌, ◌/◌, ◌+◌, arith, sym, ap, true, false}
use Rattle.std.specs.Prelude.{None, Some}
use Rattle.page_check.specs.declared.fields.LinePointer.{LinePointer}
use Rattle.page_check.specs.declared.fields.PageHeader.{PageHeader}
use Rattle.page_check.specs.Fields.{header_of}
use Rattle.page_check.specs.LinePointers.{line_pointer_of}
use Rattle.heap_tuple.specs.Tuples.{is_normal}
use Rattle.page_faults.specs.Places.{is_outside, is_own, placed_items, place_of, first_piece, end_piece}
use Rattle.page_faults.proofs.PieceOwners.{place_of-outside, inside_fits}
use Rattle.page_faults.proofs.PieceOwners.{placed_items-unplaced, placed_items-placed, owners_of_same}
use Rattle.page_faults.proofs.PieceOwners.{owners_with, Takes}
use Rattle.page_faults.proofs.FoundPlaces.{place_of-found, free_pieces, takes_of}
use Rattle.page_faults.proofs.places.take_place.Goals as goal

pub returns-then-is_outside-clause-place : goal.returns-then-is_outside-clause-place
returns-then-is_outside-clause-place c =
    let page = c.args.page.now in
    let out : is_outside (header_of page) (line_pointer_of page c.args.index) ≡ true =
    sym (ap (λ (h : PageHeader). is_outside h c.args.pointer) c.header.ensures
    ∙ ap (is_outside (header_of page)) c.requires.pointer)
    ∙ sym c.is_outside.ensures ∙ c.if-is_outside.true in
    sym (place_of-outside page (placed_items page c.args.index) c.args.index out)

pub returns-then-is_outside-clause-owners : goal.returns-then-is_outside-clause-owners
returns-then-is_outside-clause-owners c =
    let page = c.args.page.now in
    let index = c.args.index in
    let out : is_outside (header_of page) (line_pointer_of page index) ≡ true =
    sym (ap (λ (h : PageHeader). is_outside h c.args.pointer) c.header.ensures
    ∙ ap (is_outside (header_of page)) c.requires.pointer)
    ∙ sym c.is_outside.ensures ∙ c.if-is_outside.true in
    let place : is_own (place_of page (placed_items page index) index) ≡ false =
    ap is_own (place_of-outside page (placed_items page index) index out) in
    owners_of_same page (placed_items page index) (placed_items page (index + 1)) c.args.owners.now
    (placed_items-unplaced page index place) c.requires.owners

pub first_owner-requires : goal.first_owner-requires
first_owner-requires c =
    let page = c.args.page.now in
    let inside : is_outside (header_of page) c.args.pointer ≡ false =
    sym (ap (λ (h : PageHeader). is_outside h c.args.pointer) c.header.ensures)
    ∙ sym c.is_outside.ensures ∙ c.if-is_outside.false in
    let fits = inside_fits (header_of page) c.args.pointer inside in
    omega (arith, fits.0, c.requires.heap, c.requires.owners.size, c.from-begin.ensures, c.from-len.ensures)

pub set_owner-requires-clause-within : goal.set_owner-requires-clause-within
set_owner-requires-clause-within c =
    let page = c.args.page.now in
    let inside : is_outside (header_of page) c.args.pointer ≡ false =
    sym (ap (λ (h : PageHeader). is_outside h c.args.pointer) c.header.ensures)
    ∙ sym c.is_outside.ensures ∙ c.if-is_outside.false in
    let fits = inside_fits (header_of page) c.args.pointer inside in
    omega (arith, fits.0, c.requires.heap, c.requires.owners.size, c.from-begin.ensures, c.from-len.ensures)

pub set_owner-requires-clause-order : goal.set_owner-requires-clause-order
set_owner-requires-clause-order c = omega (arith, c.from-begin.ensures, c.from-len.ensures)

pub returns-in-Some-clause-place : goal.returns-in-Some-clause-place
returns-in-Some-clause-place c =
    let page = c.args.page.now in
    let items = placed_items page c.args.index in
    let inside : is_outside (header_of page) c.args.pointer ≡ false =
    sym (ap (λ (h : PageHeader). is_outside h c.args.pointer) c.header.ensures)
    ∙ sym c.is_outside.ensures ∙ c.if-is_outside.false in
    place_of-found page items c.args.index (c.from-begin.result / 8)
    ((c.from-begin.result + c.from-len.result + 7) / 8) c.args.pointer (Some c.in-Some.other)
    c.requires.pointer inside (omega (arith, c.from-begin.ensures))
    (omega (arith, c.from-begin.ensures, c.from-len.ensures))
    (c.in-Some.ensures page items c.requires.owners)

pub returns-in-Some-clause-owners : goal.returns-in-Some-clause-owners
returns-in-Some-clause-owners c =
    let page = c.args.page.now in
    let index = c.args.index in
    let items = placed_items page index in
    let inside : is_outside (header_of page) c.args.pointer ≡ false =
    sym (ap (λ (h : PageHeader). is_outside h c.args.pointer) c.header.ensures)
    ∙ sym c.is_outside.ensures ∙ c.if-is_outside.false in
    let place =
    place_of-found page items index (c.from-begin.result / 8)
    ((c.from-begin.result + c.from-len.result + 7) / 8) c.args.pointer (Some c.in-Some.other)
    c.requires.pointer inside (omega (arith, c.from-begin.ensures))
    (omega (arith, c.from-begin.ensures, c.from-len.ensures))
    (c.in-Some.ensures page items c.requires.owners) in
    owners_of_same page items (placed_items page (index + 1)) c.args.owners.now
    (placed_items-unplaced page index (ap is_own (sym place))) c.requires.owners

pub returns-clause-place : goal.returns-clause-place
returns-clause-place c =
    let page = c.args.page.now in
    let items = placed_items page c.args.index in
    let inside : is_outside (header_of page) c.args.pointer ≡ false =
    sym (ap (λ (h : PageHeader). is_outside h c.args.pointer) c.header.ensures)
    ∙ sym c.is_outside.ensures ∙ c.if-is_outside.false in
    place_of-found page items c.args.index (c.from-begin.result / 8)
    ((c.from-begin.result + c.from-len.result + 7) / 8) c.args.pointer None
    c.requires.pointer inside (omega (arith, c.from-begin.ensures))
    (omega (arith, c.from-begin.ensures, c.from-len.ensures))
    (sym c.in_default.is ∙ c.first_owner.ensures page items c.requires.owners)

pub returns-clause-fits : goal.returns-clause-fits
returns-clause-fits c =
    let page = c.args.page.now in
    let inside : is_outside (header_of page) c.args.pointer ≡ false =
    sym (ap (λ (h : PageHeader). is_outside h c.args.pointer) c.header.ensures)
    ∙ sym c.is_outside.ensures ∙ c.if-is_outside.false in
    let fits = inside_fits (header_of page) c.args.pointer inside in
    λ own. omega (arith, fits.0, fits.1, c.requires.heap)

pub returns-clause-owners : goal.returns-clause-owners
returns-clause-owners c =
    let page = c.args.page.now in
    let index = c.args.index in
    let items = placed_items page index in
    let from = c.from-begin.result / 8 in
    let to = (c.from-begin.result + c.from-len.result + 7) / 8 in
    let pointer = c.args.pointer in
    let inside : is_outside (header_of page) pointer ≡ false =
    sym (ap (λ (h : PageHeader). is_outside h pointer) c.header.ensures)
    ∙ sym c.is_outside.ensures ∙ c.if-is_outside.false in
    let first : from ≡ first_piece pointer = omega (arith, c.from-begin.ensures) in
    let last : to ≡ end_piece pointer = omega (arith, c.from-begin.ensures, c.from-len.ensures) in
    let none = sym c.in_default.is ∙ c.first_owner.ensures page items c.requires.owners in
    let place = place_of-found page items index from to pointer None c.requires.pointer inside first
    last none in
    let normal = ap (λ (p : LinePointer). is_normal p.kind) (sym c.requires.pointer)
    ∙ ap is_normal c.requires.normal in
    let takes : Takes from to (index + 1) c.args.owners.now c.set_owner.new.owners = record {
      size = c.set_owner.ensures.size;
      before = c.set_owner.ensures.before;
      there = c.set_owner.ensures.there;
      behind = c.set_owner.ensures.behind;
    } in
    owners_of_same page (items ++ index ∷ []) (placed_items page (index + 1)) c.set_owner.new.owners
    (placed_items-placed page index normal (ap is_own (sym place)))
    (owners_with page items c.args.owners.now c.set_owner.new.owners index c.requires.owners
    (takes_of page c.args.owners.now c.set_owner.new.owners index from to (index + 1) pointer
    c.requires.pointer first last refl takes)
    (free_pieces page items index from to pointer c.requires.pointer first last none))
