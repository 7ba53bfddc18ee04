-- Pages beside the numbers of their blocks, and the first of them that is bad.
use Rattle.std.proofs.Common.{◌≡◌, ℕ, zero, suc, ◌+◌, ◌<◌, ◌≤◌, Bool, true, false, cond, nat_lt}
use Rattle.std.proofs.Common.{List, [], ◌∷◌, length, get_or, refl, sym, ap, ◌∙◌, arith, Some, None}
use Rattle.std.proofs.Common.{Option}
use Rattle.std.specs.List.{position_or_len}
use Rattle.std.proofs.lemmas.List.Quantifiers.{position-Some}
use Rattle.std.proofs.lemmas.List.Sums.{fails_before_first, position_or_len_is}
use Rattle.std.proofs.lemmas.Bool.Decides.{nat_tests}
use Rattle.read_callbacks.specs.Chain.{is_bad, is_bad_block, with_blocks, first_bad}

pub length-with_blocks : (from : ℕ) (pages : List (List ℕ))
    → length (with_blocks from pages) ≡ length pages
length-with_blocks from [] = refl
length-with_blocks from (p ∷ ps) = (let e = length-with_blocks (suc from) ps in omega arith)

pub block-at : (from : ℕ) (pages : List (List ℕ)) (k : ℕ) → k < length pages
    → get_or (with_blocks from pages) k (0, []) ≡ (from + k, get_or pages k [])
block-at from [] k below = absurd (omega arith)
block-at from (p ∷ ps) zero below =
    let here : from ≡ from + 0 = omega arith in
    ap (λ (n : ℕ). let x : ℕ × List ℕ = (n, p) in x) here
block-at from (p ∷ ps) (suc k) below =
    let place : suc from + k ≡ from + suc k = omega arith in
    block-at (suc from) ps k (omega arith)
    ∙ ap (λ (n : ℕ). let x : ℕ × List ℕ = (n, get_or ps k []) in x) place

bad-at : (sums : Bool) (from : ℕ) (pages : List (List ℕ)) (k : ℕ) → k < length pages
    → is_bad_block sums (get_or (with_blocks from pages) k (0, []))
    ≡ is_bad sums (from + k) (get_or pages k [])
bad-at sums from pages k below =
    ap (λ (x : ℕ × List ℕ). is_bad_block sums x) (block-at from pages k below)

no_first : (b : Bool) (n : ℕ) → cond b (Some n) None ≡ None → b ≡ false
no_first true n e = absurd (cc)
no_first false n e = refl

not_before : (a b : ℕ) → nat_lt a b ≡ false → b ≤ a
not_before a b e = grind (arith, nat_tests)

-- where no page is the first bad one, none is bad
pub first_bad-none : (sums : Bool) (from : ℕ) (pages : List (List ℕ))
    → first_bad sums from pages ≡ None → (k : ℕ) → k < length pages
    → is_bad sums (from + k) (get_or pages k []) ≡ false
first_bad-none sums from pages e k below =
    let xs = with_blocks from pages in
    let many = length-with_blocks from pages in
    let place = position_or_len (is_bad_block sums) xs in
    let far : length xs ≤ place =
    not_before place (length xs) (no_first (nat_lt place (length xs)) place e) in
    sym (bad-at sums from pages k below)
    ∙ fails_before_first (is_bad_block sums) xs k (0, []) (omega arith)

pub record IsFirstBad (sums : Bool) (from : ℕ) (pages : List (List ℕ)) (i : ℕ) : Type 0 where
  pub within : i < length pages
  pub bad : is_bad sums (from + i) (get_or pages i []) ≡ true
  pub before : (k : ℕ) → k < i → is_bad sums (from + k) (get_or pages k []) ≡ false

-- the first bad page is bad, and none before it is
pub first_bad-some : (sums : Bool) (from : ℕ) (pages : List (List ℕ)) (i : ℕ)
    → first_bad sums from pages ≡ Some i → IsFirstBad sums from pages i
first_bad-some sums from pages i e =
    let s = position-Some (is_bad_block sums) (with_blocks from pages) i (0, []) e in
    let many = length-with_blocks from pages in
    let low = s.0 in
    let within : i < length pages = omega arith in
    record {
      within = within;
      bad = sym (bad-at sums from pages i within) ∙ s.1;
      before = λ k less. sym (bad-at sums from pages k (omega arith)) ∙ s.2 k less;
    }

placed : (sums : Bool) (from : ℕ) (pages : List (List ℕ)) (i : ℕ) → i ≤ length pages
    → ((k : ℕ) → k < i → is_bad sums (from + k) (get_or pages k []) ≡ false)
    → (i < length pages → is_bad sums (from + i) (get_or pages i []) ≡ true)
    → position_or_len (is_bad_block sums) (with_blocks from pages) ≡ i
placed sums from pages i le before here =
    let many = length-with_blocks from pages in
    position_or_len_is (is_bad_block sums) (with_blocks from pages) i (0, []) (omega arith)
    (λ k less. bad-at sums from pages k (omega arith) ∙ before k less)
    (λ less. (let low : i < length pages = omega arith in bad-at sums from pages i low ∙ here low))

-- and the other way round
pub first_bad-found : (sums : Bool) (from : ℕ) (pages : List (List ℕ)) (i : ℕ) → i < length pages
    → ((k : ℕ) → k < i → is_bad sums (from + k) (get_or pages k []) ≡ false)
    → is_bad sums (from + i) (get_or pages i []) ≡ true → first_bad sums from pages ≡ Some i
first_bad-found sums from pages i below before here =
    let many = length-with_blocks from pages in
    let place = placed sums from pages i (omega arith) before (λ _. here) in
    let less : nat_lt i (length (with_blocks from pages)) ≡ true = grind (arith, nat_tests) in
    ap (λ (n : ℕ). cond (nat_lt n (length (with_blocks from pages))) (Some n) None) place
    ∙ ap (λ (b : Bool). cond b (Some i) None) less

pub first_bad-absent : (sums : Bool) (from : ℕ) (pages : List (List ℕ))
    → ((k : ℕ) → k < length pages → is_bad sums (from + k) (get_or pages k []) ≡ false)
    → first_bad sums from pages ≡ None
first_bad-absent sums from pages good =
    let n = length pages in
    let many = length-with_blocks from pages in
    let place = placed sums from pages n (omega arith) good (λ less. absurd (omega arith)) in
    let past : nat_lt n (length (with_blocks from pages)) ≡ false = grind (arith, nat_tests) in
    ap (λ (k : ℕ). cond (nat_lt k (length (with_blocks from pages))) (Some k) None) place
    ∙ ap (λ (b : Bool). let r : Option ℕ = cond b (Some n) None in r) past
