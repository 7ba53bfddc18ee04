use Rattle.std.proofs.Common.{◌≡◌, ◌≤◌, ◌+◌, subst, ℕ, List, sym, ap, ◌∙◌, arith, false}
use Rattle.page_check.specs.declared.fields.PageHeader.{PageHeader}
use Rattle.page_check.specs.declared.fields.LinePointer.{LinePointer}
use Rattle.page_check.specs.Fields.{header_of}
use Rattle.page_check.specs.LinePointers.{line_pointer_of}
use Rattle.heap_tuple.specs.Tuples.{header_at}
use Rattle.page_faults.specs.Places.{is_outside}
use Rattle.page_faults.specs.GoodItems.{AreGood}
use Rattle.page_faults.proofs.PieceOwners.{inside_fits}
use Rattle.page_faults.proofs.ItemsInOrder.{good-more, normal_kind}
use Rattle.page_faults.proofs.good_items.begin_of.Goals as goal

pub read_header-tuple-requires : goal.read_header-tuple-requires
read_header-tuple-requires c =
    let header = header_of c.args.page.now in
    let inside = c.is_out_of_order.ensures c.if-is_out_of_order.false header c.requires.upper
    (omega (arith, c.requires.within, c.requires.heap)) in
    let fits = inside_fits header c.line_pointer-pointer.result inside.0 in
    omega (arith, fits.0, fits.1, c.requires.heap, c.from-first.ensures, c.bytes.ensures.size)

pub returns : goal.returns
returns c =
    λ are.
    let page = c.args.page.now in
    let pointer = c.line_pointer-pointer.result in
    let is = c.line_pointer-pointer.ensures in
    let inside = c.is_out_of_order.ensures c.if-is_out_of_order.false (header_of page)
    c.requires.upper (omega (arith, c.requires.within, c.requires.heap)) in
    let offset = c.from-first.ensures ∙ ap (λ (p : LinePointer). p.offset) is in
    let header = c.read_header-tuple.ensures
    ∙ ap (λ (bytes : List ℕ). header_at bytes c.from-first.result) c.bytes.ensures.value
    ∙ ap (header_at page) offset in
    let next = good-more c.args.options.now c.args.block page c.args.index c.args.begin pointer
    c.read_header-tuple.result is (normal_kind (line_pointer_of page c.args.index).kind c.requires.normal) inside.0 inside.1
    (c.is_good_tuple.ensures c.if-not-is_good_tuple.false) header are in
    subst (λ (n : ℕ). AreGood c.args.options.now c.args.block page (c.args.index + 1) n)
    (sym c.from-first.ensures) next
