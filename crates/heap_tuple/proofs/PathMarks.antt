-- The items of a path, and the marks that they leave.
use Rattle.std.proofs.Common.{◌≡◌, ℕ, ◌<◌, ◌≤◌, Bool, true, false, ◌||◌, List, [], ◌∷◌}
use Rattle.std.proofs.Common.{◌++◌, length, refl, ap, sym, ◌∙◌, arith, inl, inr, set, get_or}
use Rattle.std.proofs.Common.{get_or-set_same, get_or-set_other}
use Rattle.std.specs.Prelude.{◌==◌}
use Rattle.std.proofs.lemmas.Bool.{or_parts, or_from, or_right, eqb-true, both_ways, cases_eq}
use Rattle.std.proofs.lemmas.Bool.{false_from_ne_true}
use Rattle.std.proofs.lemmas.Map.Steps.{length-le_from_distinct_below}
use Rattle.heap_tuple.specs.Chains.{contains}
use Rattle.heap_tuple.specs.ChainLengths.{IsPath}
use Rattle.heap_tuple.proofs.DistinctItems.{distinct-none, distinct-pushed, contains-append}
use Rattle.heap_tuple.proofs.DistinctItems.{contains-either}
use Rattle.heap_tuple.proofs.DistinctItems.{contains-one}
use Rattle.heap_tuple.proofs.DistinctItems.{contains-right, contains-first}

or_false : (b : Bool) → b ≡ (b || false)
or_false true = refl
or_false false = refl

pub path_none : (before : List Bool) → IsPath before before []
path_none before = record {
  distinct = distinct-none;
  new = λ x here. absurd (both_ways false refl here);
  inside = λ x here. absurd (both_ways false refl here);
  passed = λ x. or_false (get_or before x false);
}

pub path_more : (before after : List Bool) (path : List ℕ) (x : ℕ) → IsPath before after path
    → x < length before → length after ≡ length before → get_or after x false ≡ false
    → IsPath before (set after x true) (path ++ x ∷ [])
path_more before after path x is below size free =
    let parts = or_parts (get_or before x false) (contains path x) (sym (is.passed x) ∙ free) in
    record {
      distinct = distinct-pushed path x parts.1 is.distinct;
      new = λ y here. elim (contains-either path (x ∷ []) y here) [
        | inl there ↦ is.new y there
        | inr one ↦ rw (contains-one x y one) (parts.0)
      ];
      inside = λ y here. elim (contains-either path (x ∷ []) y here) [
        | inl there ↦ is.inside y there
        | inr one ↦ rw (contains-one x y one) below
      ];
      passed = λ y. elim (cases_eq y x) [
        | inl same ↦ rw same
            (get_or-set_same after x true false (omega (arith, below, size))
            ∙ sym (or_right (get_or before x false) (contains (path ++ x ∷ []) x)
            (contains-right path (x ∷ []) x (contains-first x []))))
        | inr other ↦
            let apart : (y == x)
            ≡ false = false_from_ne_true (y == x) (λ e. other (eqb-true y x e)) in
            let none : contains (x ∷ []) y ≡ false = or_from (y == x) false apart refl in
            let behind : contains (path ++ x ∷ []) y ≡ contains path y =
            contains-append path (x ∷ []) y ∙ ap (λ (b : Bool). contains path y || b) none
            ∙ sym (or_false (contains path y)) in
            get_or-set_other after x y true false other ∙ is.passed y
            ∙ ap (λ (b : Bool). get_or before y false || b) (sym behind)
      ];
    }

-- the same where the code has names for its parts
pub path_pushed : (before after : List Bool) (path pushed : List ℕ) (x read written : ℕ)
    → IsPath before after path → x < length before → length after ≡ length before
    → read ≡ x → get_or after read false ≡ false → written ≡ x → pushed ≡ path ++ x ∷ []
    → IsPath before (set after written true) pushed
path_pushed before after path pushed x read written is below size here free there grown =
    rw there (rw grown (path_more before after path x is below size
    (ap (λ (y : ℕ). get_or after y false) (sym here) ∙ free)))

-- no more items than marks
pub path_few : (before after : List Bool) (path : List ℕ) → IsPath before after path
    → length path ≤ length before
path_few before after path is = length-le_from_distinct_below path
    (length before) is.distinct is.inside
