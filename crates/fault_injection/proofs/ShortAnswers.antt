-- Short answers that are each at least 1.
use Rattle.std.proofs.Common.{◌≡◌, ℕ, zero, suc, ◌-◌, ◌<◌, ◌==◌, ◌&&◌, Bool, true, false, List, []}
use Rattle.std.proofs.Common.{◌∷◌, Option, Some, None, IfSome, Vec, refl, find, slice_get}
use Rattle.std.proofs.Common.{option_and_then, cond, unwrap_or, ◌^◌, lit<}
use Rattle.std.specs.List.{list_all}
use Rattle.std.proofs.lemmas.Bool.{ltb-true}
use Rattle.std.specs.Option.{option_map}
use Rattle.std.specs.declared.alloc.Global.{Global}
use Rattle.fault_injection.specs.Script.{are_positive, has_positive_shorts, short_answer}
use Rattle.fault_injection.specs.declared.script.Script.{Script}

both : (a b : Bool) → a && b ≡ true → (a ≡ true) × (b ≡ true)
both true b h = (refl, h)
both false b h = cc

-- the k-th number of a list, where there is a list
abbrev short_in : ℕ → Option (List ℕ) → Option ℕ
short_in k shorts = option_and_then (λ numbers. slice_get numbers k) shorts

abbrev IsPositive : Option ℕ → Type 0
IsPositive short = IfSome short (λ n. 0 < n)

-- a number of a list of positive numbers is positive
get_positive : (numbers : List ℕ) (k : ℕ) → are_positive numbers ≡ true
    → IsPositive (slice_get numbers k)
get_positive [] k all = tt
get_positive (n ∷ numbers) zero all = ltb-true 0 n (both _ _ all).0
get_positive (n ∷ numbers) (suc k) all = get_positive numbers k (both _ _ all).1

-- so is one of the first list of a disk
find_positive : (lists : List (ℕ × Vec ℕ Global)) (disk k : ℕ)
    → list_all (λ shorts. are_positive shorts.1.items) lists ≡ true
    → IsPositive (short_in k
    (option_map (λ shorts. shorts.1.items) (find (λ shorts. shorts.0 == disk) lists)))
find_positive [] disk k all = tt
find_positive (first ∷ lists) disk k all =
    let rest : Option (ℕ × Vec ℕ Global) = find (λ shorts. shorts.0 == disk) lists in
    elim (first.0 == disk) as (λ b. IsPositive
    (short_in k (option_map (λ shorts. shorts.1.items) (cond b (Some first) rest)))) [
      | true ↦ get_positive first.1.items k (both _ _ all).0
      | false ↦ find_positive lists disk k (both _ _ all).1
    ]

-- a read of a script with positive short answers only may answer a page
pub most_positive : (script : Script) (disk k : ℕ) → has_positive_shorts script ≡ true
    → 0 < unwrap_or (short_answer script disk k) (2 ^ 32 - 1)
most_positive script disk k positive =
    elim (short_answer script disk k)
    as (λ short. IsPositive short → 0 < unwrap_or short (2 ^ 32 - 1)) [
      | Some n ↦ λ above. above
      | None ↦ λ _. lit< tt
    ] (find_positive script.shorts.items disk (k - 1) positive)
