-- Lists of items that steps pass.
use Rattle.std.proofs.Common.{◌≡◌, ℕ, List, [], ◌∷◌, ◌++◌, refl, sym, ◌∙◌}
use Rattle.std.specs.Prelude.{Option, Some}
use Rattle.heap_tuple.specs.Chains.{StepsPass}

module _ (next : ℕ → Option ℕ) where
  pub passes-from : (at here then : Option ℕ) (xs : List ℕ) → at ≡ here
      → StepsPass next here xs then
      → StepsPass next at xs then
  passes-from at here then [] same passes = same ∙ passes
  passes-from at here then (x ∷ xs) same passes = (same ∙ passes.0, passes.1)

  pub passes-append : (at mid then : Option ℕ) (xs ys : List ℕ) → StepsPass next at xs mid
      → StepsPass next mid ys then → StepsPass next at (xs ++ ys) then
  passes-append at mid then [] ys before behind = passes-from at mid then ys before behind
  passes-append at mid then (x ∷ xs) ys before behind =
      (before.0, passes-append (next x) mid then xs ys before.1 behind)

  pub passes-split : (at then : Option ℕ) (xs ys : List ℕ) → StepsPass next at (xs ++ ys) then
      → (mid : Option ℕ) × StepsPass next at xs mid × StepsPass next mid ys then
  passes-split at then [] ys passes = (at, refl, passes)
  passes-split at then (x ∷ xs) ys passes =
      let rest = passes-split (next x) then xs ys passes.1 in
      (rest.0, (passes.0, rest.1), rest.2)

  -- one more item
  pub passes-more : (at : Option ℕ) (x : ℕ) (xs : List ℕ) → StepsPass next at xs (Some x)
      → StepsPass next at (xs ++ x ∷ []) (next x)
  passes-more at x xs passes = passes-append at (Some x) (next x) xs (x ∷ []) passes (refl, refl)

  -- and one item less
  pub passes-less : (at then : Option ℕ) (x : ℕ) (xs : List ℕ)
      → StepsPass next at (xs ++ x ∷ []) then
      → StepsPass next at xs (Some x) × (next x ≡ then)
  passes-less at then x xs passes =
      let parts = passes-split at then xs (x ∷ []) passes in
      (rw (sym parts.2.0) parts.1, parts.2.1)
