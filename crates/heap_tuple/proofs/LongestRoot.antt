-- Roots among the first items, and the longest of their chains.
use Rattle.std.proofs.Common.{◌≡◌, ◌⊎◌, ℕ, zero, suc, ◌+◌, ◌<◌, ◌≤◌, max, Bool, true, false, ◌||◌}
use Rattle.std.proofs.Common.{not, cond, List, [], ◌∷◌, ◌++◌, length, refl, ap, sym, ◌∙◌, arith}
use Rattle.std.proofs.Common.{inl}
use Rattle.std.proofs.Common.{append-nil, length-append, inr, set, get_or, get_or-set_same}
use Rattle.std.proofs.Common.{get_or-set_other, eq-eqb}
use Rattle.std.specs.Prelude.{◌==◌, ◌&&◌, Option, Some, None, IfSome, is_some}
use Rattle.std.specs.List.{list_any, filter, fold, range_with_len}
use Rattle.std.proofs.lemmas.Bool.{or_cases, or_left, or_right, eqb-true, both_ways}
use Rattle.std.proofs.lemmas.Bool.{cases_lt, cases_eq, ne_eqb}
use Rattle.std.proofs.lemmas.List.Folds.{list_any-append}
use Rattle.std.proofs.lemmas.List.Elements.{filter-append}
use Rattle.std.proofs.lemmas.List.Sums.{fold_push}
use Rattle.heap_tuple.specs.declared.header.TupleHeader.{TupleHeader}
use Rattle.page_check.specs.LinePointers.{line_pointer_count}
use Rattle.heap_tuple.specs.Tuples.{tuple_of, step_of}
use Rattle.heap_tuple.specs.Chains.{contains, leads_to, is_root, roots_of, longest_of}
use Rattle.heap_tuple.specs.Chains.{chain_of, IsLongest, chain_from}
use Rattle.heap_tuple.specs.ChainLengths.{AreStepTargets, AreChainLengths}
use Rattle.heap_tuple.proofs.DistinctItems.{contains-first}
use Rattle.heap_tuple.proofs.StepsBelow.{step_of-below}
use Rattle.heap_tuple.proofs.ChainItems.{whole_chain, passes-few, chain_from-longest}
use Rattle.heap_tuple.proofs.ChainItems.{chain_from-found}

cases_le : (a b : ℕ) → (a ≤ b) ⊎ (b < a)
cases_le a b = elim (cases_lt b a) [ inl less ↦ inr less | inr more ↦ inl more ]

range_more : (a n : ℕ) → range_with_len a (n + 1) ≡ range_with_len a n ++ (a + n) ∷ []
range_more a zero = ap (λ (x : ℕ). x ∷ []) (omega arith)
range_more a (suc n) =
    let rest = range_more (a + 1) n in
    let here : a + 1 + n ≡ a + suc n = omega arith in
    let more : suc n + 1 ≡ suc (n + 1) = omega arith in
    ap (range_with_len a) more
    ∙ ap (λ (xs : List ℕ). a ∷ xs) (rest
    ∙ ap (λ (x : ℕ). range_with_len (a + 1) n ++ x ∷ []) here)

pub range_pushed : (n : ℕ) → range_with_len 0 (n + 1) ≡ range_with_len 0 n ++ n ∷ []
range_pushed n = range_more 0 n ∙ ap (λ (x : ℕ). range_with_len 0 n ++ x ∷ []) (omega arith)

or_false : (b : Bool) → b ≡ (b || false)
or_false true = refl
or_false false = refl

any_pushed : (p : ℕ → Bool) (n : ℕ)
    → list_any p (range_with_len 0 (n + 1)) ≡ (list_any p (range_with_len 0 n) || p n)
any_pushed p n =
    ap (list_any p) (range_pushed n) ∙ list_any-append p (range_with_len 0 n) (n ∷ [])
    ∙ ap (λ (b : Bool). list_any p (range_with_len 0 n) || b) (sym (or_false (p n)))

-- one more item was asked for its step
pub reached_none : (page : List ℕ) (block n : ℕ) (reached : List Bool)
    → AreStepTargets page block n reached → step_of page block n ≡ None
    → AreStepTargets page block (n + 1) reached
reached_none page block n reached are stays =
    λ x. are x ∙ or_false (list_any (λ i. leads_to (step_of page block i) x) (range_with_len 0 n))
    ∙ ap (λ (b : Bool). list_any (λ i. leads_to (step_of page block i) x) (range_with_len 0 n) || b)
    (ap (λ (o : Option ℕ). leads_to o x) (sym stays))
    ∙ sym (any_pushed (λ i. leads_to (step_of page block i) x) n)

pub reached_more : (page : List ℕ) (block n next read : ℕ) (reached : List Bool)
    → AreStepTargets page block n reached → step_of page block n ≡ Some next → read ≡ next
    → next < length reached → AreStepTargets page block (n + 1) (set reached read true)
reached_more page block n next read reached are steps here below =
    rw here (λ x.
    let any = list_any (λ i. leads_to (step_of page block i) x) (range_with_len 0 n) in
    let pushed : list_any (λ i. leads_to (step_of page block i) x) (range_with_len 0 (n + 1))
    ≡ (any || (next == x)) =
    any_pushed (λ i. leads_to (step_of page block i) x) n
    ∙ ap (λ (o : Option ℕ). any || leads_to o x) steps in
    elim (cases_eq x next) [
      | inl same ↦
          ap (λ (y : ℕ). get_or (set reached next true) y false) same
          ∙ get_or-set_same reached next true false below
          ∙ sym (pushed ∙ or_right any (next == x) (eq-eqb next x (sym same)))
      | inr other ↦
          get_or-set_other reached next x true false other ∙ are x ∙ or_false any
          ∙ ap (λ (b : Bool). any || b) (sym (ne_eqb next x (λ same. other (sym same))))
          ∙ sym pushed
    ])

-- the roots among the first items, and the longest of their chains
abbrev pub first_roots : List ℕ → ℕ → ℕ → List ℕ
first_roots page block n = filter (is_root page block) (range_with_len 0 n)

abbrev pub longest_among : List ℕ → ℕ → List ℕ → ℕ
longest_among page block roots =
    fold (λ best i. max best (length (chain_of page block i))) 0 roots

roots_pushed : (page : List ℕ) (block n : ℕ)
    → first_roots page block (n + 1)
    ≡ first_roots page block n ++ cond (is_root page block n) (n ∷ []) []
roots_pushed page block n =
    ap (filter (is_root page block)) (range_pushed n)
    ∙ filter-append (is_root page block) (range_with_len 0 n) (n ∷ [])

pub roots_yes : (page : List ℕ) (block n : ℕ) → is_root page block n ≡ true
    → first_roots page block (n + 1) ≡ first_roots page block n ++ n ∷ []
roots_yes page block n is =
    roots_pushed page block n
    ∙ ap (λ (b : Bool). first_roots page block n ++ cond b (n ∷ []) []) is

pub roots_no : (page : List ℕ) (block n : ℕ) → is_root page block n ≡ false
    → first_roots page block (n + 1) ≡ first_roots page block n
roots_no page block n is =
    roots_pushed page block n
    ∙ ap (λ (b : Bool). first_roots page block n ++ cond b (n ∷ []) []) is
    ∙ append-nil (first_roots page block n)

pub longest_pushed : (page : List ℕ) (block n : ℕ) (roots : List ℕ)
    → longest_among page block (roots ++ n ∷ [])
    ≡ max (longest_among page block roots) (length (chain_of page block n))
longest_pushed page block n roots =
    fold_push (λ best i. max best (length (chain_of page block i))) 0 roots n

-- what the code tests of an item
pub root_test : (page : List ℕ) (block n : ℕ) (reached : List Bool)
    → AreStepTargets page block (line_pointer_count page) reached
    → (is_some (tuple_of page n) && not (get_or reached n false)) ≡ is_root page block n
unfolding is_root
root_test page block n reached are =
    ap (λ (b : Bool). is_some (tuple_of page n) && not b) (are n)

-- a length that was written down is that of the item's chain
pub length_of_chain : (page : List ℕ) (block x : ℕ) (lengths : List ℕ)
    → AreChainLengths (step_of page block) lengths → 0 < get_or lengths x 0 → x < line_pointer_count page
    → length (chain_of page block x) ≡ get_or lengths x 0
unfolding chain_of
length_of_chain page block x lengths known some below =
    let is = known x some in
    let few = passes-few (step_of page block) (line_pointer_count page) (Some x) is.whole.last_step
    is.items
    (λ y inside. step_of-below page block y) below is.whole.steps is.whole.distinct in
    ap length (whole_chain (step_of page block) (line_pointer_count page) x is.items is.whole few)
    ∙ is.size

-- what stands in a filtered list and in a list of numbers
by_pass : (b : Bool) (p : ℕ → Bool) (y x : ℕ) (ys : List ℕ) → p y ≡ b
    → (contains (y ∷ ys) x ≡ true) → p x ≡ true
    → (contains ys x ≡ true → contains (filter p ys) x ≡ true)
    → contains (cond b (y ∷ filter p ys) (filter p ys)) x ≡ true
by_pass true p y x ys is here pass rest = elim (or_cases (x == y) (contains ys x) here) [
  | inl same ↦ or_left (x == y) (contains (filter p ys) x) same
  | inr there ↦ or_right (x == y) (contains (filter p ys) x) (rest there)
]
by_pass false p y x ys is here pass rest = elim (or_cases (x == y) (contains ys x) here) [
  | inl same ↦
      absurd (both_ways (p y) is (ap p (sym (eqb-true x y same)) ∙ pass))
  | inr there ↦ rest there
]

in_filter : (p : ℕ → Bool) (xs : List ℕ) (x : ℕ) → contains xs x ≡ true → p x ≡ true
    → contains (filter p xs) x ≡ true
in_filter p [] x here pass = here
in_filter p (y ∷ ys) x here pass =
    by_pass (p y) p y x ys refl here pass (λ there. in_filter p ys x there pass)

from_pass : (b : Bool) (p : ℕ → Bool) (y x : ℕ) (ys : List ℕ) → p y ≡ b
    → contains (cond b (y ∷ filter p ys) (filter p ys)) x ≡ true
    → (contains (filter p ys) x ≡ true → (contains ys x ≡ true) × (p x ≡ true))
    → (contains (y ∷ ys) x ≡ true) × (p x ≡ true)
from_pass true p y x ys is here rest = elim (or_cases (x == y) (contains (filter p ys) x) here) [
  | inl same ↦ (or_left (x == y) (contains ys x) same, ap p (eqb-true x y same) ∙ is)
  | inr there ↦ (or_right (x == y) (contains ys x) (rest there).0, (rest there).1)
]
from_pass false p y x ys is here rest
    = (or_right (x == y) (contains ys x) (rest here).0, (rest here).1)

from_filter : (p : ℕ → Bool) (xs : List ℕ) (x : ℕ) → contains (filter p xs) x ≡ true
    → (contains xs x ≡ true) × (p x ≡ true)
from_filter p [] x here = absurd (both_ways false refl here)
from_filter p (y ∷ ys) x here =
    from_pass (p y) p y x ys refl here (λ there. from_filter p ys x there)

in_range : (a n x : ℕ) → a ≤ x → x < a + n → contains (range_with_len a n) x ≡ true
in_range a zero x low high = absurd (omega arith)
in_range a (suc n) x low high = elim (cases_eq x a) [
  | inl same ↦ or_left (x == a) (contains (range_with_len (a + 1) n) x) (eq-eqb x a same)
  | inr other ↦
      or_right (x == a) (contains (range_with_len (a + 1) n) x)
      (in_range (a + 1) n x (omega arith) (omega arith))
]

from_range : (a n x : ℕ) → contains (range_with_len a n) x ≡ true → x < a + n
from_range a zero x here = absurd (both_ways false refl here)
from_range a (suc n) x here = elim (or_cases (x == a) (contains (range_with_len (a + 1) n) x) here) [
  | inl same ↦ omega (arith, eqb-true x a same)
  | inr there ↦ omega (arith, from_range (a + 1) n x there)
]

-- the greatest of some numbers
best_from : (f : ℕ → ℕ) (a : ℕ) (xs : List ℕ) → a ≤ fold (λ best i. max best (f i)) a xs
best_from f a [] = omega arith
best_from f a (y ∷ ys) = omega (arith, best_from f (max a (f y)) ys)

best_bounds : (f : ℕ → ℕ) (a : ℕ) (xs : List ℕ) (x : ℕ) → contains xs x ≡ true
    → f x ≤ fold (λ best i. max best (f i)) a xs
best_bounds f a [] x here = absurd (both_ways false refl here)
best_bounds f a (y ∷ ys) x here = elim (or_cases (x == y) (contains ys x) here) [
  | inl same ↦ omega (arith, ap f (eqb-true x y same), best_from f (max a (f y)) ys)
  | inr there ↦ best_bounds f (max a (f y)) ys x there
]

best_reached : (f : ℕ → ℕ) (a : ℕ) (xs : List ℕ)
    → (fold (λ best i. max best (f i)) a xs ≡ a)
    ⊎ ((x : ℕ) × (contains xs x ≡ true) × (f x ≡ fold (λ best i. max best (f i)) a xs))
best_reached f a [] = inl refl
best_reached f a (y ∷ ys) = elim (best_reached f (max a (f y)) ys) [
  | inl stayed ↦ elim (cases_le (f y) a) [
    | inl less ↦ inl (stayed ∙ (omega arith))
    | inr more ↦ inr (y, contains-first y ys, omega (arith, stayed))
  ]
  | inr further ↦ inr (
    further.0,
    or_right (further.0 == y) (contains ys further.0) further.1,
    further.2,
  )
]

-- the longest chain is the longest
pub longest_is_longest : (page : List ℕ) (block : ℕ) → IsLongest page block (longest_of page block)
unfolding longest_of roots_of chain_of
longest_is_longest page block =
    let next = step_of page block in
    let n = line_pointer_count page in
    let each : (x : ℕ) → x < n
    → IfSome (next x) (λ y. y < n) = λ x below. step_of-below page block x in
    let long : ℕ → ℕ = λ i. length (chain_from next n [] (Some i)) in
    let roots = filter (is_root page block) (range_with_len 0 n) in
    record {
      bound = λ root items below is chain.
          let few = passes-few next n (Some root) chain.last_step items each below chain.steps
          chain.distinct in
          let less = chain_from-longest next n [] (Some root) chain.last_step items chain.steps
          chain.distinct (λ x here. refl) few in
          let among = best_bounds long 0 roots root
          (in_filter (is_root page block) (range_with_len 0 n) root
          (in_range 0 n root (omega arith) (omega (arith, below))) is) in
          omega (arith, less, among);
      reached = λ some. elim (best_reached long 0 roots) [
        | inl none ↦ absurd (omega (arith, some, none))
        | inr best ↦
            let of = from_filter (is_root page block) (range_with_len 0 n) best.0 best.1 in
            let found = chain_from-found next n [] (Some best.0) in (
              best.0,
              chain_from next n [] (Some best.0),
              omega (arith, from_range 0 n best.0 of.0),
              of.1,
              record {
                some = omega (arith, some, best.2);
                distinct = found.distinct;
                last_step = found.last_step;
                steps = found.steps;
              },
              best.2,
            )
      ];
    }

-- a root is followed
pub roots_followed : (page : List ℕ) (block n roots : ℕ) → is_root page block n ≡ true
    → roots ≡ length (first_roots page block n)
    → roots + 1 ≡ length (first_roots page block (n + 1))
roots_followed page block n roots is are =
    omega (
      arith,
      are,
      ap length (roots_yes page block n is),
      length-append (first_roots page block n) (n ∷ []),
    )

pub longest_followed : (page : List ℕ) (block n found longest : ℕ) → is_root page block n ≡ true
    → longest ≡ longest_among page block (first_roots page block n)
    → length (chain_of page block n) ≡ found
    → max found longest ≡ longest_among page block (first_roots page block (n + 1))
longest_followed page block n found longest is are long =
    let pushed = ap (longest_among page block) (roots_yes page block n is)
    ∙ longest_pushed page block n (first_roots page block n) in
    omega (arith, are, pushed, long)

-- the two ways in which the code tests an item
pub root_inside : (page : List ℕ) (block n read : ℕ) (reached : List Bool)
    (header : Option TupleHeader)
    (some : Bool) → header ≡ tuple_of page n → some ≡ is_some header → some ≡ true → read ≡ n
    → AreStepTargets page block (line_pointer_count page) reached
    → not (get_or reached read false) ≡ is_root page block n
root_inside page block n read reached header some is test so here are =
    let inside : is_some (tuple_of page n) ≡ true = ap is_some (sym is) ∙ sym test ∙ so in
    let of = root_test page block n reached are in
    rw here (ap (λ (b : Bool). b && not (get_or reached n false)) (sym inside) ∙ of)

pub root_outside : (page : List ℕ) (block n : ℕ) (reached : List Bool) (header : Option TupleHeader)
    (some : Bool) → header ≡ tuple_of page n → some ≡ is_some header → some ≡ false
    → AreStepTargets page block (line_pointer_count page) reached → some ≡ is_root page block n
root_outside page block n reached header some is test so are =
    let outside : is_some (tuple_of page n) ≡ false = ap is_some (sym is) ∙ sym test ∙ so in
    let of = root_test page block n reached are in
    so ∙ ap (λ (b : Bool). b && not (get_or reached n false)) (sym outside) ∙ of
