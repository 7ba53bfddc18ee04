-- Lists without the blocks that a map marks.
use Rattle.std.proofs.Common.{◌≡◌, ℕ, Bool, true, false, cond, List, [], ◌∷◌, ◌++◌, map, not, refl}
use Rattle.std.proofs.Common.{ap, ◌∙◌}
use Rattle.std.specs.List.{concat}
use Rattle.std.proofs.lemmas.List.Elements.{filter-append}
use Rattle.vis_map.specs.declared.map.Skip.{Skip}
use Rattle.vis_map.specs.declared.map.Skip.TheVariants.{Visible, Frozen}
use Rattle.vis_map.specs.Bits.{is_marked}
use Rattle.page_check.specs.SynchronousAnswer.{Entry}
use Rattle.vis_map.specs.MapRequest.{unmarked_blocks, unmarked_entries}

pub part_by_part : (pages : List (List ℕ)) (skip : Skip) (parts : List (List ℕ))
    → unmarked_blocks pages skip (concat parts) ≡ concat (map (unmarked_blocks pages skip) parts)
part_by_part pages skip [] = refl
part_by_part pages skip (part ∷ parts) =
    filter-append (λ block. not (is_marked pages skip block)) part (concat parts)
    ∙ ap (λ (rest : List ℕ). unmarked_blocks pages skip part ++ rest)
    (part_by_part pages skip parts)

pub nothing_marked : (skip : Skip) (blocks : List ℕ) → unmarked_blocks [] skip blocks ≡ blocks
nothing_marked skip [] = refl
nothing_marked Visible (block ∷ blocks) =
    ap (λ (rest : List ℕ). block ∷ rest) (nothing_marked Visible blocks)
nothing_marked Frozen (block ∷ blocks) =
    ap (λ (rest : List ℕ). block ∷ rest) (nothing_marked Frozen blocks)

module _ {P : Type 0} where
  by_test : (b : Bool) (e : Entry P) (rest : List (Entry P)) (blocks : List ℕ)
      → map (λ d. d.block) rest ≡ blocks
      → map (λ d. d.block) (cond b (e ∷ rest) rest) ≡ cond b (e.block ∷ blocks) blocks
  by_test true e rest blocks same = ap (λ (bs : List ℕ). e.block ∷ bs) same
  by_test false e rest blocks same = same

  pub kept_blocks : (pages : List (List ℕ)) (skip : Skip) (entries : List (Entry P))
      → map (λ e. e.block) (unmarked_entries pages skip entries)
      ≡ unmarked_blocks pages skip (map (λ e. e.block) entries)
  kept_blocks pages skip [] = refl
  kept_blocks pages skip (e ∷ entries) =
      by_test (not (is_marked pages skip e.block)) e (unmarked_entries pages skip entries)
      (unmarked_blocks pages skip (map (λ d. d.block) entries)) (kept_blocks pages skip entries)
