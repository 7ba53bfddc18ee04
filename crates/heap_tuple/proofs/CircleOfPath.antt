-- A path that came back to one of its items.
use Rattle.std.proofs.Common.{◌≡◌, ℕ, ◌-◌, ◌<◌, true, false, List, ◌∷◌}
use Rattle.std.proofs.Common.{length, take, drop, get_or, ap, sym, ◌∙◌, length-drop}
use Rattle.std.proofs.lemmas.List.{take_rest}
use Rattle.heap_tuple.specs.Chains.{contains}
use Rattle.heap_tuple.specs.ChainLengths.{ClosesCircle}
use Rattle.heap_tuple.proofs.DistinctItems.{split_there, contains-right}

-- what is taken off is the end of the path
pub end_of : (path shown : List ℕ) (start : ℕ) → shown ≡ path
    → take (length shown - start) (drop start shown) ≡ drop start path
end_of path shown start same = rw same (take_rest path start)

pub end_inside : (path part : List ℕ) (start x item : ℕ) → part ≡ drop start path
    → start < length path → get_or path start 0 ≡ item → contains part x ≡ true
    → contains path x ≡ true
end_inside path part start x item is below there here =
    let split = split_there path start item below there in
    rw split.2 (contains-right (take start path) (item ∷ split.0) x
    (ap (λ (ys : List ℕ). contains ys x) (sym (is ∙ split.1)) ∙ here))

pub closed : (before after path left part : List ℕ) (item start chain : ℕ)
    → part ≡ drop start path → left ≡ take start path → start < length path
    → get_or path start 0 ≡ item → chain ≡ length path - start
    → ((x : ℕ) → contains part x ≡ true → get_or after x 0 ≡ chain)
    → ((x : ℕ) → contains part x ≡ false → get_or after x 0 ≡ get_or before x 0)
    → ClosesCircle before after path left item chain
closed before after path left part item start chain is left_is below there size inside outside =
    let split = split_there path start item below there in
    let same : (x : ℕ) → contains part x ≡ contains (item ∷ split.0) x =
    λ x. ap (λ (ys : List ℕ). contains ys x) (is ∙ split.1) in
    record {
      rest = split.0;
      path_parts = rw left_is split.2;
      size = size ∙ sym (length-drop start path) ∙ ap length split.1;
      there = λ x here. inside x (same x ∙ here);
      elsewhere = λ x out. outside x (same x ∙ out);
    }
