-- Update chains of a page: which items begin one, and how long each is.
use Rattle.std.specs.Prelude.{◌≡◌, ℕ, zero, suc, ◌<◌, ◌≤◌, max, Bool, true, false, ◌&&◌, not}
use Rattle.std.specs.Prelude.{is_some}
use Rattle.std.specs.Prelude.{◌==◌, nat_eq, List, [], ◌∷◌, length, Option, Some, None, cond}
use Rattle.std.specs.List.{IsDistinct, list_any, filter, fold, range_with_len}
use Rattle.page_check.specs.LinePointers.{line_pointer_count}
use Rattle.heap_tuple.specs.Tuples.{tuple_of, step_of}

-- whether x stands in the list
abbrev pub contains : List ℕ → ℕ → Bool
contains xs x = list_any (λ y. x == y) xs

-- from one item on, steps pass these items one after the other, and lead to another or nowhere
abbrev pub StepsPass : (ℕ → Option ℕ) → Option ℕ → List ℕ → Option ℕ → Type 0
StepsPass next at [] then = at ≡ then
StepsPass next at (x ∷ xs) then = (at ≡ Some x) × StepsPass next (next x) xs then

-- distinct items, the first of them this one, of which each next is the step of the one before
pub record IsChain (next : ℕ → Option ℕ) (first : ℕ) (items : List ℕ) : Type 0 where
  pub some : 0 < length items
  pub distinct : IsDistinct nat_eq items
  pub last_step : Option ℕ
  pub steps : StepsPass next (Some first) items last_step

-- the chain of an item: it, and what its steps pass until one leads nowhere or back into the chain;
-- at most so many items
abbrev pub chain_from : (ℕ → Option ℕ) → ℕ → List ℕ → Option ℕ → List ℕ
chain_from next zero passed at = []
chain_from next (suc most) passed None = []
chain_from next (suc most) passed (Some x) =
    cond (contains passed x) [] (x ∷ chain_from next most (x ∷ passed) (next x))

unfoldable pub chain_of : List ℕ → ℕ → ℕ → List ℕ
chain_of page block index = chain_from (step_of page block) (line_pointer_count page) []
    (Some index)

abbrev pub leads_to : Option ℕ → ℕ → Bool
leads_to None index = false
leads_to (Some next) index = next == index

-- an item to which none of these steps
abbrev pub is_unreached : List ℕ → ℕ → List ℕ → ℕ → Bool
is_unreached page block items index =
    not (list_any (λ i. leads_to (step_of page block i) index) items)

-- a root is inside the page, and no item steps to it
unfoldable pub is_root : List ℕ → ℕ → ℕ → Bool
is_root page block index =
    is_some (tuple_of page index)
    && is_unreached page block (range_with_len 0 (line_pointer_count page)) index

unfoldable pub roots_of : List ℕ → ℕ → List ℕ
roots_of page block = filter (is_root page block) (range_with_len 0 (line_pointer_count page))

-- the greatest length of a root's chain, 0 where there is no root
unfoldable pub longest_of : List ℕ → ℕ → ℕ
longest_of page block = fold (λ best i. max best (length (chain_of page block i))) 0
    (roots_of page block)

-- what that means: no chain of a root is longer, and some chain of a root is as long, or there is
-- none
pub record IsLongest (page : List ℕ) (block longest : ℕ) : Type 0 where
  pub bound : (root : ℕ) (items : List ℕ) → root < line_pointer_count page
      → is_root page block root ≡ true
      → IsChain (step_of page block) root items → length items ≤ longest
  pub reached : 0 < longest
      → (root : ℕ) × (items : List ℕ) × (root < line_pointer_count page)
      × (is_root page block root ≡ true)
      × IsChain (step_of page block) root items × (length items ≡ longest)
