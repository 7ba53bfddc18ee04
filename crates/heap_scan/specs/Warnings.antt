-- The warnings of pages that were given: a line for each that is zeros in place of an invalid one.
use Rattle.std.specs.Prelude.{ℕ, List, [], ◌∷◌, codes, decimal}
use Rattle.std.specs.List.{concat, flat_map}
use Rattle.page_check.specs.SynchronousAnswer.{Given}
use Rattle.page_check.specs.declared.rules.PageMark.{PageMark}
use Rattle.page_check.specs.declared.rules.PageMark.TheVariants.{Valid, Zeroed, Damaged}

-- `zeroed page R B`
abbrev pub warning_line : ℕ → ℕ → List ℕ
warning_line relation block =
    concat (codes "zeroed page " ∷ decimal relation ∷ codes " " ∷ decimal block
    ∷ codes "\n" ∷ [])

-- by a page's mark
abbrev pub warning_by : PageMark → ℕ → ℕ → List ℕ
warning_by Valid relation block = []
warning_by Zeroed relation block = warning_line relation block
warning_by Damaged relation block = []

abbrev pub warning_for : {P : Type 0} → Given P → List ℕ
warning_for g = warning_by g.mark g.entry.relation g.entry.block

-- in the order of the pages
unfoldable pub warnings_of : {P : Type 0} → List (Given P) → List ℕ
warnings_of pages = flat_map warning_for pages
