use Rattle.std.proofs.Common.{◌≡◌, arith, sym, ◌∙◌, ap, get_or}
use Rattle.page_faults.specs.Places.{number_of}
use Rattle.page_faults.proofs.PieceOwners.{first_owner-free, first_owner-had, first_owner-end}
use Rattle.page_faults.proofs.places.first_owner.Goals as goal

pub returns-then-number-gt0 : goal.returns-then-number-gt0
returns-then-number-gt0 c =
    λ page items are.
    let at = c.loop-piece.piece in
    first_owner-had page items c.args.owners.now at c.args.to are (omega arith)
    (omega (arith, c.requires, are.size)) (omega arith)
    ∙ ap number_of (c.loop-piece.invariant page items are)

pub loop-piece-preserved : goal.loop-piece-preserved
loop-piece-preserved c =
    λ page items are.
    let at = c.loop-piece.piece in
    let free : get_or c.args.owners.now at 0 ≡ 0 = omega arith in
    sym (first_owner-free page items c.args.owners.now at c.args.to are (omega arith)
    (omega (arith, c.requires, are.size)) free)
    ∙ c.loop-piece.invariant page items are

pub returns : goal.returns
returns c =
    λ page items are.
    ap number_of (first_owner-end page items c.loop-piece.piece c.args.to (omega arith)
    ∙ c.loop-piece.invariant page items are)
