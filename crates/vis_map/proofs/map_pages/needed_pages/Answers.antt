use Rattle.std.proofs.Common.{◌≤◌, subst}
use Rattle.std.specs.Prelude.{IfSome}
use Rattle.vis_map.proofs.NeededPages.{enough_pages}
use Rattle.vis_map.proofs.map_pages.needed_pages.Goals as goal

pub returns-in-Some-clause-enough : goal.returns-in-Some-clause-enough
returns-in-Some-clause-enough c =
    λ map block size below some. rw c.min.ensures
    (enough_pages map c.args.pages c.in-Some.block block size
    (subst (λ o. IfSome o (λ last. block ≤ last)) c.in-Some.is below))
