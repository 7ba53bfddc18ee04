use Rattle.std.proofs.Common.{◌≡◌, false, sym, ap, ◌∙◌}
use Rattle.page_faults.proofs.ItemsInOrder.{tuple_faults-none, xid_unknown}
use Rattle.page_faults.specs.TupleFaults.{is_frozen, is_multi}
use Rattle.std.specs.Prelude.{not, is_some}
use Rattle.page_faults.proofs.tuples.has_fault.Goals as goal

pub returns-then-is_none : goal.returns-then-is_none
returns-then-is_none c =
    λ none item.
    let header = c.args.header.now in
    let unknown : is_some c.args.options.now.next_xid ≡ false =
    c.is_none.ensures ∙ ap not c.if-is_none.true in
    tuple_faults-none c.args.options.now item c.args.len header
    (sym c.is_wrong_hoff.ensures ∙ c.if-is_wrong_hoff.false)
    (sym c.has_bits.ensures ∙ c.if-has_bits.false)
    (xid_unknown (not (is_frozen header)) c.args.options.now.next_xid header.xmin unknown)
    (xid_unknown (not (is_multi header)) c.args.options.now.next_xid header.xmax unknown)

pub returns-else-is_wrong_xmin : goal.returns-else-is_wrong_xmin
returns-else-is_wrong_xmin c =
    λ none item.
    tuple_faults-none c.args.options.now item c.args.len c.args.header.now
    (sym c.is_wrong_hoff.ensures ∙ c.if-is_wrong_hoff.false)
    (sym c.has_bits.ensures ∙ c.if-has_bits.false)
    (sym c.is_wrong_xmin.ensures ∙ c.if-is_wrong_xmin.false)
    (sym c.is_wrong_xmax.ensures ∙ none)
