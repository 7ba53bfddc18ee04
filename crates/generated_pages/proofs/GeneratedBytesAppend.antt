-- Lists that are made piece by piece.
use Rattle.std.proofs.Common.{◌≡◌, ℕ, zero, suc, ◌+◌, ◌-◌, ◌≤◌, List, [], ◌∷◌, ◌++◌, take}
use Rattle.std.proofs.Common.{ap, sym, ◌∙◌, arith, replicate, append_assoc, append-nil}
use Rattle.std.specs.Prelude.{flat_map}
use Rattle.std.specs.List.{range_with_len}
use Rattle.std.proofs.lemmas.List.{replicate-append-replicate, take_at, length-replicate}
use Rattle.generated_pages.specs.GeneratedPages.{generated_page, generated_pointer_bytes}
use Rattle.generated_pages.specs.GeneratedPages.{generated_pointer, four_bytes}

pub some_zeros : (n count : ℕ) → count ≤ n → take {A = ℕ} count (replicate n 0) ≡ replicate count 0
some_zeros n count few =
    let none : ℕ = 0 in
    let split : replicate count none ++ replicate (n - count) none ≡ replicate n none =
    replicate-append-replicate count (n - count) none
    ∙ ap (λ (k : ℕ). replicate k none) (omega arith) in
    ap (λ (xs : List ℕ). take count xs) (sym split)
    ∙ take_at (replicate count none) (replicate (n - count) none) count
    (length-replicate count none)

range_more : (a n : ℕ) → range_with_len a (n + 1) ≡ range_with_len a n ++ (a + n) ∷ []
range_more a zero = ap (λ (x : ℕ). x ∷ []) (omega arith)
range_more a (suc n) =
    let rest = range_more (a + 1) n in
    let here : a + 1 + n ≡ a + suc n = omega arith in
    let more : suc n + 1 ≡ suc (n + 1) = omega arith in
    ap (range_with_len a) more ∙ ap (λ (xs : List ℕ). a ∷ xs)
    (rest ∙ ap (λ (x : ℕ). range_with_len (a + 1) n ++ x ∷ []) here)

one_more : (f : ℕ → List ℕ) (xs : List ℕ) (x : ℕ) → flat_map f (xs ++ x ∷ []) ≡ flat_map f xs ++ f x
one_more f [] x = append-nil (f x)
one_more f (y ∷ ys) x =
    ap (λ (rest : List ℕ). f y ++ rest) (one_more f ys x)
    ∙ sym (append_assoc (f y) (flat_map f ys) (f x))

flat_map_range_next : (f : ℕ → List ℕ) (a n x : ℕ) → x ≡ a + n
    → flat_map f (range_with_len a (n + 1)) ≡ flat_map f (range_with_len a n) ++ f x
flat_map_range_next f a n x same =
    ap (flat_map f) (range_more a n) ∙ one_more f (range_with_len a n) (a + n)
    ∙ ap (λ (y : ℕ). flat_map f (range_with_len a n) ++ f y) (sym same)

pub pointers_more : (n : ℕ)
    → generated_pointer_bytes (n + 1) ≡ generated_pointer_bytes n
    ++ four_bytes (generated_pointer (n + 1))
pointers_more n = flat_map_range_next (λ i. four_bytes (generated_pointer i))
    1 n (n + 1) (omega arith)

pub file_more : (n : ℕ)
    → flat_map generated_page (range_with_len 0 (n + 1))
    ≡ flat_map generated_page (range_with_len 0 n) ++ generated_page n
file_more n = flat_map_range_next generated_page 0 n n (omega arith)

pub pushed : (now before old generated piece all : List ℕ) → now ≡ before ++ piece
    → before ≡ old ++ generated
    → all ≡ generated ++ piece → now ≡ old ++ all
pushed now before old generated piece all grew was more =
    grew ∙ ap (λ (xs : List ℕ). xs ++ piece) was ∙ append_assoc old generated piece
    ∙ ap (λ (xs : List ℕ). old ++ xs) (sym more)
