use Rattle.std.proofs.Common.{◌++◌, ◌∙◌, sym, ap, List, append_assoc}
use Rattle.std.proofs.lemmas.List.{append-nil}
use Rattle.page_faults.specs.declared.fault.Fault.{Fault}
use Rattle.page_faults.specs.ItemFaults.{items_faults, item_faults}
use Rattle.page_faults.proofs.PieceOwners.{owners_none}
use Rattle.page_faults.proofs.ItemLists.{items_faults-none, items_faults-more, prefix_through}
use Rattle.page_faults.proofs.items.check_each.Goals as goal

pub loop-index-init : goal.loop-index-init
loop-index-init c =
    let page = c.args.page.now in
    record {
      found = sym (ap (λ (list : List Fault). c.args.found.now.items ++ list)
          (items_faults-none c.args.options.now page) ∙ append-nil c.args.found.now.items);
      owners = owners_none page;
      witnesses = c.no_witnesses-witnesses.ensures page;
    }

pub loop-index-preserved : goal.loop-index-preserved
loop-index-preserved c =
    let page = c.args.page.now in
    let index = c.loop-index.index in
    let options = c.args.options.now in
    record {
      found = c.in_ok-check_item.ensures.ok
          ∙ ap (λ (list : List Fault). list ++ item_faults options page index)
          c.loop-index.invariant.found
          ∙ append_assoc c.args.found.now.items (items_faults options page index)
          (item_faults options page index)
          ∙ ap (λ (list : List Fault). c.args.found.now.items ++ list)
          (items_faults-more options page index);
      owners = c.in_ok-check_item.ensures.owners;
      witnesses = c.in_ok-check_item.ensures.witnesses;
    }

pub returns-in_err-check_item-clause-prefix : goal.returns-in_err-check_item-clause-prefix
returns-in_err-check_item-clause-prefix c =
    prefix_through c.args.found.now.items
    (items_faults c.args.options.now c.args.page.now c.loop-index.index) c.loop-index.found.items
    c.check_item.new.found.items c.loop-index.invariant.found c.in_err-check_item.ensures.prefix

pub returns-clause-prefix : goal.returns-clause-prefix
returns-clause-prefix c =
    prefix_through c.args.found.now.items
    (items_faults c.args.options.now c.args.page.now c.loop-index.index) c.loop-index.found.items
    c.check_witnesses.new.found.items c.loop-index.invariant.found c.check_witnesses.ensures.prefix
