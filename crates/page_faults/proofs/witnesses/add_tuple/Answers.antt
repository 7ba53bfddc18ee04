use Rattle.std.proofs.Common.{◌≡◌, false, ap, sym, ◌∙◌}
use Rattle.std.specs.Prelude.{unwrap_or, ◌&&◌}
use Rattle.heap_tuple.specs.declared.header.TupleHeader.{TupleHeader}
use Rattle.page_faults.specs.Misplaced.{names_itself, is_at}
use Rattle.page_faults.proofs.NamedBlocks.{witnesses_skip, witnesses_with}
use Rattle.page_faults.proofs.witnesses.add_tuple.Goals as goal

pub returns-then-not-names_itself : goal.returns-then-not-names_itself
returns-then-not-names_itself c =
    λ page items is are.
    let other : names_itself c.args.header.now ≡ false =
    sym c.names_itself.ensures ∙ c.if-not-names_itself.true in
    witnesses_skip page items c.args.index c.args.witnesses.now
    (sym (ap names_itself is) ∙ other) are

pub returns : goal.returns
returns c =
    λ page items is are.
    let index = c.args.index in
    let kept = c.args.witnesses.now in
    let named = c.unwrap_or-named.result in
    let one = sym (ap names_itself is) ∙ sym c.names_itself.ensures ∙ c.if-not-names_itself.false in
    witnesses_with page items index named kept c.agree_on-witnesses.result one are
    (c.unwrap_or-named.ensures ∙ ap (λ (h : TupleHeader). unwrap_or kept.named h.block) is)
    (c.agree_on-witnesses.ensures ∙ ap (λ (h : TupleHeader). kept.agree && is_at h named index) is)
