-- What is known of chains while the items are followed one after the other.
use Rattle.std.specs.Prelude.{◌≡◌, ℕ, ◌<◌, Bool, true, false, ◌||◌, not, List, Option, Some, None}
use Rattle.std.specs.Prelude.{◌∷◌, ◌++◌, length, slice_index, slice_index_or, nat_eq, ◌==◌, ⊤}
use Rattle.std.specs.List.{IsDistinct, list_any, range_with_len}
use Rattle.heap_tuple.specs.Tuples.{step_of}
use Rattle.heap_tuple.specs.Chains.{contains, StepsPass, leads_to}

-- the last item of these has no step, or one back into them
abbrev pub EndsInCircle : List ℕ → Option ℕ → Type 0
EndsInCircle items None = ⊤
EndsInCircle items (Some x) = contains items x ≡ true

-- a chain that cannot be longer
pub record IsWholeChain (next : ℕ → Option ℕ) (first : ℕ) (items : List ℕ) : Type 0 where
  pub distinct : IsDistinct nat_eq items
  pub last_step : Option ℕ
  pub steps : StepsPass next (Some first) items last_step
  pub ends : EndsInCircle items last_step

-- the length of an item's chain is written down, and of each item of its chain
pub record HasKnownLength (next : ℕ → Option ℕ) (lengths : List ℕ) (item : ℕ) : Type 0 where
  pub items : List ℕ
  pub whole : IsWholeChain next item items
  pub size : length items ≡ slice_index lengths item
  pub known : (x : ℕ) → contains items x ≡ true → 0 < slice_index lengths x

-- what is written down is right; a 0 stands for nothing
abbrev pub AreChainLengths : (ℕ → Option ℕ) → List ℕ → Type 0
AreChainLengths next lengths = (x : ℕ) → 0 < slice_index lengths x → HasKnownLength next lengths x

-- the length of the chain that goes on at an item, or nowhere, is this one
abbrev pub RemainingLength : List ℕ → Option ℕ → ℕ → Type 0
RemainingLength lengths None length = length ≡ 0
RemainingLength lengths (Some x) length = (length ≡ slice_index lengths x) × (0 < length)

-- what was passed: these distinct items, none of which had been passed before, and what had
pub record IsPath (before after : List Bool) (path : List ℕ) : Type 0 where
  pub distinct : IsDistinct nat_eq path
  pub new : (x : ℕ) → contains path x ≡ true → slice_index_or before x false ≡ false
  pub inside : (x : ℕ) → contains path x ≡ true → x < length before
  pub passed : (x : ℕ) → slice_index_or after x false
      ≡ (slice_index_or before x false || contains path x)

-- passed are the items whose chains are known
abbrev pub PassedAreKnown : List Bool → List ℕ → Type 0
PassedAreKnown passed lengths = (x : ℕ) → slice_index_or passed x false
    ≡ not (slice_index lengths x == 0)

-- a path came back to one of its items: the circle from there on was taken off it, and the number
-- of its items was written down at each of them, and nothing elsewhere
pub record ClosesCircle (before after path left : List ℕ) (item chain : ℕ) : Type 0 where
  pub rest : List ℕ
  pub path_parts : path ≡ left ++ (item ∷ rest)
  pub size : chain ≡ length (item ∷ rest)
  pub there : (x : ℕ) → contains (item ∷ rest) x ≡ true → slice_index after x ≡ chain
  pub elsewhere : (x : ℕ) → contains (item ∷ rest) x ≡ false
      → slice_index after x ≡ slice_index before x

-- marked are the items to which one of the first so many steps
abbrev pub AreStepTargets : List ℕ → ℕ → ℕ → List Bool → Type 0
AreStepTargets page block most reached =
    (x : ℕ) → slice_index_or reached x false
    ≡ list_any (λ i. leads_to (step_of page block i) x) (range_with_len 0 most)
