-- The line of totals.
use Rattle.std.specs.Prelude.{ℕ, List, [], ◌∷◌, codes, decimal}
use Rattle.std.specs.List.{concat}
use Rattle.aio_handle.specs.EndStates.{TotalsView}

-- `incarnations N workers W backends B`
abbrev pub numbers_line : ℕ → ℕ → ℕ → List ℕ
numbers_line incarnations workers backends =
    concat (codes "incarnations " ∷ decimal incarnations ∷ codes " workers " ∷ decimal workers
    ∷ codes " backends " ∷ decimal backends ∷ codes "\n" ∷ [])

-- a worker is a runner of the table
abbrev pub totals_line : TotalsView → List ℕ
totals_line totals = numbers_line totals.incarnations totals.by_runners totals.by_backends
