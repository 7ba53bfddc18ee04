use Rattle.std.proofs.Common.{◌≡◌, ◌+◌, ◌++◌, ◌∙◌, sym, ap, subst, List, OnOk}
use Rattle.std.proofs.lemmas.List.{append-nil}
use Rattle.page_check.specs.declared.fields.LinePointer.{LinePointer}
use Rattle.heap_tuple.specs.Tuples.{is_normal}
use Rattle.page_faults.specs.declared.fault.Fault.{Fault}
use Rattle.page_faults.specs.Places.{placed_items}
use Rattle.page_faults.proofs.PieceOwners.{placed_items-other, owners_of_same}
use Rattle.page_faults.proofs.NamedBlocks.{witnesses_of_same}
use Rattle.page_faults.proofs.ItemLists.{unused_faults, redirect_faults, dead_faults}
use Rattle.page_faults.proofs.items.check_item.Goals as goal

pub returns-in-Unused-clause-ok : goal.returns-in-Unused-clause-ok
returns-in-Unused-clause-ok c =
    let pointer = c.line_pointer-pointer.result in
    let is = c.line_pointer-pointer.ensures in
    let kind = sym c.in-Unused.is ∙ ap (λ (p : LinePointer). p.kind) is in
    subst (λ (list : List Fault). OnOk c.report.result
    (c.report.new.found.items ≡ c.args.found.now.items ++ list))
    (unused_faults c.args.options.now c.args.page.now c.args.index pointer c.is_wrong_unused.result is
    kind c.is_wrong_unused.ensures) c.report.ensures.ok

pub returns-in-Redirect-clause-ok : goal.returns-in-Redirect-clause-ok
returns-in-Redirect-clause-ok c =
    let pointer = c.line_pointer-pointer.result in
    let is = c.line_pointer-pointer.ensures in
    let kind = sym c.in-Redirect.is ∙ ap (λ (p : LinePointer). p.kind) is in
    subst (λ (list : List Fault). OnOk c.report-in-Redirect.result
    (c.report-in-Redirect.new.found.items ≡ c.args.found.now.items ++ list))
    (redirect_faults c.args.options.now c.args.page.now c.args.index pointer c.is_wrong_redirect-wrong.result is
    kind c.is_wrong_redirect-wrong.ensures) c.report-in-Redirect.ensures.ok

pub returns-in-Dead-clause-ok : goal.returns-in-Dead-clause-ok
returns-in-Dead-clause-ok c =
    let is = c.line_pointer-pointer.ensures in
    let kind = sym c.in-Dead.is ∙ ap (λ (p : LinePointer). p.kind) is in
    sym (append-nil c.args.found.now.items)
    ∙ ap (λ (list : List Fault). c.args.found.now.items ++ list)
    (dead_faults c.args.options.now c.args.page.now c.args.index kind)

pub returns-in-Unused-clause-owners : goal.returns-in-Unused-clause-owners
returns-in-Unused-clause-owners c =
    let page = c.args.page.now in
    let index = c.args.index in
    let other = ap (λ (p : LinePointer). is_normal p.kind) (sym c.line_pointer-pointer.ensures)
    ∙ ap is_normal c.in-Unused.is in
    owners_of_same page (placed_items page index) (placed_items page (index + 1)) c.args.owners.now
    (placed_items-other page index other) c.requires.owners

pub returns-in-Unused-clause-witnesses : goal.returns-in-Unused-clause-witnesses
returns-in-Unused-clause-witnesses c =
    let page = c.args.page.now in
    let index = c.args.index in
    let other = ap (λ (p : LinePointer). is_normal p.kind) (sym c.line_pointer-pointer.ensures)
    ∙ ap is_normal c.in-Unused.is in
    witnesses_of_same page (placed_items page index) (placed_items page (index + 1))
    c.args.witnesses.now (placed_items-other page index other) c.requires.witnesses

pub returns-in-Redirect-clause-owners : goal.returns-in-Redirect-clause-owners
returns-in-Redirect-clause-owners c =
    let page = c.args.page.now in
    let index = c.args.index in
    let other = ap (λ (p : LinePointer). is_normal p.kind) (sym c.line_pointer-pointer.ensures)
    ∙ ap is_normal c.in-Redirect.is in
    owners_of_same page (placed_items page index) (placed_items page (index + 1)) c.args.owners.now
    (placed_items-other page index other) c.requires.owners

pub returns-in-Redirect-clause-witnesses : goal.returns-in-Redirect-clause-witnesses
returns-in-Redirect-clause-witnesses c =
    let page = c.args.page.now in
    let index = c.args.index in
    let other = ap (λ (p : LinePointer). is_normal p.kind) (sym c.line_pointer-pointer.ensures)
    ∙ ap is_normal c.in-Redirect.is in
    witnesses_of_same page (placed_items page index) (placed_items page (index + 1))
    c.args.witnesses.now (placed_items-other page index other) c.requires.witnesses

pub returns-in-Dead-clause-owners : goal.returns-in-Dead-clause-owners
returns-in-Dead-clause-owners c =
    let page = c.args.page.now in
    let index = c.args.index in
    let other = ap (λ (p : LinePointer). is_normal p.kind) (sym c.line_pointer-pointer.ensures)
    ∙ ap is_normal c.in-Dead.is in
    owners_of_same page (placed_items page index) (placed_items page (index + 1)) c.args.owners.now
    (placed_items-other page index other) c.requires.owners

pub returns-in-Dead-clause-witnesses : goal.returns-in-Dead-clause-witnesses
returns-in-Dead-clause-witnesses c =
    let page = c.args.page.now in
    let index = c.args.index in
    let other = ap (λ (p : LinePointer). is_normal p.kind) (sym c.line_pointer-pointer.ensures)
    ∙ ap is_normal c.in-Dead.is in
    witnesses_of_same page (placed_items page index) (placed_items page (index + 1))
    c.args.witnesses.now (placed_items-other page index other) c.requires.witnesses
