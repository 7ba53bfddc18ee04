use Rattle.std.proofs.Common.{◌≡◌, ◌+◌, ◌++◌, ◌∷◌, [], ◌∙◌, sym, ap, subst, List, ℕ, OnOk}
use Rattle.page_check.specs.declared.fields.LinePointer.{LinePointer}
use Rattle.heap_tuple.specs.Tuples.{header_at, is_normal}
use Rattle.page_faults.specs.declared.fault.Fault.{Fault}
use Rattle.page_faults.specs.Places.{is_own, placed_items}
use Rattle.page_faults.proofs.PieceOwners.{placed_items-unplaced, placed_items-placed}
use Rattle.page_faults.proofs.NamedBlocks.{witnesses_of_same}
use Rattle.page_faults.proofs.ItemLists.{outside_faults, taken_faults, own_faults}
use Rattle.page_faults.proofs.items.check_normal.Goals as goal

pub returns-in_err-push-in-Taken-clause-witnesses :
    goal.returns-in_err-push-in-Taken-clause-witnesses
returns-in_err-push-in-Taken-clause-witnesses c =
    let page = c.args.page.now in
    let index = c.args.index in
    witnesses_of_same page (placed_items page index) (placed_items page (index + 1))
    c.args.witnesses.now
    (placed_items-unplaced page index (ap is_own (sym c.in-Taken.ensures.place)))
    c.requires.witnesses

pub returns-in_ok-push-in-Taken-clause-witnesses :
    goal.returns-in_ok-push-in-Taken-clause-witnesses
returns-in_ok-push-in-Taken-clause-witnesses c =
    let page = c.args.page.now in
    let index = c.args.index in
    witnesses_of_same page (placed_items page index) (placed_items page (index + 1))
    c.args.witnesses.now
    (placed_items-unplaced page index (ap is_own (sym c.in-Taken.ensures.place)))
    c.requires.witnesses

pub returns-in_err-push-in-Outside-clause-witnesses :
    goal.returns-in_err-push-in-Outside-clause-witnesses
returns-in_err-push-in-Outside-clause-witnesses c =
    let page = c.args.page.now in
    let index = c.args.index in
    witnesses_of_same page (placed_items page index) (placed_items page (index + 1))
    c.args.witnesses.now
    (placed_items-unplaced page index (ap is_own (sym c.in-Outside.ensures.place)))
    c.requires.witnesses

pub returns-in_ok-push-in-Outside-clause-witnesses :
    goal.returns-in_ok-push-in-Outside-clause-witnesses
returns-in_ok-push-in-Outside-clause-witnesses c =
    let page = c.args.page.now in
    let index = c.args.index in
    witnesses_of_same page (placed_items page index) (placed_items page (index + 1))
    c.args.witnesses.now
    (placed_items-unplaced page index (ap is_own (sym c.in-Outside.ensures.place)))
    c.requires.witnesses

pub returns-in_ok-push-in-Taken-clause-ok : goal.returns-in_ok-push-in-Taken-clause-ok
returns-in_ok-push-in-Taken-clause-ok c =
    let page = c.args.page.now in
    let index = c.args.index in
    c.in_ok-push-in-Taken.ensures.items
    ∙ ap (λ (list : List Fault). c.args.found.now.items ++ list)
    (taken_faults c.args.options.now page index c.in-Taken.other (sym c.requires.normal)
    c.in-Taken.ensures.place)

pub returns-in_ok-push-in-Outside-clause-ok : goal.returns-in_ok-push-in-Outside-clause-ok
returns-in_ok-push-in-Outside-clause-ok c =
    let page = c.args.page.now in
    let index = c.args.index in
    c.in_ok-push-in-Outside.ensures.items
    ∙ ap (λ (list : List Fault). c.args.found.now.items ++ list)
    (outside_faults c.args.options.now page index c.line_pointer-pointer.result
    c.line_pointer-pointer.ensures (sym c.requires.normal) c.in-Outside.ensures.place)

pub returns-in-Own-clause-ok : goal.returns-in-Own-clause-ok
returns-in-Own-clause-ok c =
    let page = c.args.page.now in
    let index = c.args.index in
    let pointer = c.line_pointer-pointer.ensures in
    let offset = c.from.ensures ∙ ap (λ (p : LinePointer). p.offset) pointer in
    let header = c.read_header-header.ensures
    ∙ ap (λ (bytes : List ℕ). header_at bytes c.from.result) c.bytes.ensures.value
    ∙ ap (header_at page) offset in
    subst (λ (list : List Fault). OnOk c.check_tuple.result
    (c.check_tuple.new.found.items ≡ c.args.found.now.items ++ list))
    (own_faults c.args.options.now page index c.line_pointer-pointer.result.length
    c.read_header-header.result (sym c.requires.normal) c.in-Own.ensures.place
    (ap (λ (p : LinePointer). p.length) pointer) header) c.check_tuple.ensures.ok

pub returns-in-Own-clause-witnesses : goal.returns-in-Own-clause-witnesses
returns-in-Own-clause-witnesses c =
    let page = c.args.page.now in
    let index = c.args.index in
    let items = placed_items page index in
    let pointer = c.line_pointer-pointer.ensures in
    let offset = c.from.ensures ∙ ap (λ (p : LinePointer). p.offset) pointer in
    let header = c.read_header-header.ensures
    ∙ ap (λ (bytes : List ℕ). header_at bytes c.from.result) c.bytes.ensures.value
    ∙ ap (header_at page) offset in
    witnesses_of_same page (items ++ index ∷ []) (placed_items page (index + 1))
    c.add_tuple.new.witnesses
    (placed_items-placed page index (ap is_normal c.requires.normal)
    (ap is_own (sym c.in-Own.ensures.place)))
    (c.add_tuple.ensures page items header c.requires.witnesses)
