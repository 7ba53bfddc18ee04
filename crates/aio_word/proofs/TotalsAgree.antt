-- Where all words are Idle, as many Claimed marks stand as generations are over.
use Rattle.std.proofs.Common.{◌≡◌, ◌≢◌, ℕ, zero, suc, ◌+◌, ◌-◌, ◌*◌, ◌<◌, ◌≤◌, ◌==◌, ◌&&◌, Bool}
use Rattle.std.proofs.Common.{true, false, cond, nat_lt, List, [], ◌∷◌, length, get_or, sum_by}
use Rattle.std.proofs.Common.{count_by, refl, sym, ap, ◌∙◌, subst, inl, inr, arith}
use Rattle.std.proofs.lemmas.List.Sums.{sum_by-cons}
use Rattle.std.proofs.lemmas.Bool.Decides.{nat_tests}
use mathlib.Core.Logic.{dite}
use mathlib.Core.Option.{some}
use native.Mathlib.Decide.{ℕ_discrete, dec_le}
use lib.ListN.{get_elem?}
use Rattle.aio_word.specs.declared.Config.{Config}
use Rattle.aio_word.specs.declared.Mark.{Mark}
use Rattle.aio_word.specs.declared.Word.{Word}
use Rattle.aio_word.specs.declared.Known.{Known}
use Rattle.aio_word.specs.Words.{word_place, word_rank}
use Rattle.aio_word.specs.Events.{handle_count, kind_place, is_mark, count_at_rank, first_word}
use Rattle.aio_word.specs.Tokens.{is_claim, claimed_mark_count}
use Rattle.aio_word.specs.Totals.{incarnations, by_backends, by_runners}
use Rattle.aio_word.specs.Stands.{IsIn, one_if, total_at_rank}
use Rattle.aio_word.specs.StandsByRank.{is_due, StandsForHandleByRank, StandsByRank}
use Rattle.aio_word.proofs.AppendKeepsHandle.{mark-below-word}
use Rattle.aio_word.proofs.OwnMarksBoundWord.{kind_place-small}

abbrev pub sum_below : (ℕ → ℕ) → ℕ → ℕ
sum_below f zero = 0
sum_below f (suc n) = sum_below f n + f n

sum_below-plus : (f g : ℕ → ℕ) (n : ℕ) → sum_below (λ i. f i + g i) n
    ≡ sum_below f n + sum_below g n
sum_below-plus f g zero = refl
sum_below-plus f g (suc n) = let r = sum_below-plus f g n in omega arith

sum_below-zero : (n : ℕ) → sum_below (λ i. 0) n ≡ 0
sum_below-zero zero = refl
sum_below-zero (suc n) = let r = sum_below-zero n in omega arith

pub sum_below-same : (f g : ℕ → ℕ) (n : ℕ) → ((i : ℕ) → i < n → f i ≡ g i)
    → sum_below f n ≡ sum_below g n
sum_below-same f g zero h = refl
sum_below-same f g (suc n) h = let r = sum_below-same f g n (λ i lt. h i (omega arith)) in
    let e = h n (omega arith) in omega arith

one-none : (b : Bool) (k n : ℕ) → k ≢ n → one_if (b && (k == n)) ≡ 0
one-none b k n ne = grind (arith, nat_tests)

one-here : (b : Bool) (k : ℕ) → one_if (b && (k == k)) ≡ one_if b
one-here b k = grind (arith, nat_tests)

one-past : (b : Bool) (k n : ℕ) → n ≤ k → sum_below (λ i. one_if (b && (k == i))) n ≡ 0
one-past b k zero le = refl
one-past b k (suc n) le = let r = one-past b k n (omega arith) in
    let e = one-none b k n (λ x. omega arith) in omega arith

pub one-among : (b : Bool) (k n : ℕ) → k < n → sum_below (λ i. one_if (b && (k == i))) n ≡ one_if b
one-among b k zero lt = absurd (omega arith)
one-among b k (suc n) lt = dite (ℕ_discrete k n)
    (λ e. let r = one-past b k n (omega arith) in
    let h : one_if (b && (k == n)) ≡ one_if b =
    subst (λ (z : ℕ). one_if (b && (k == z)) ≡ one_if b) e (one-here b k) in omega arith)
    (λ ne. let r = one-among b k n (omega arith) in let h = one-none b k n ne in omega arith)

false-among : (k n : ℕ) → sum_below (λ i. one_if (false && (k == i))) n ≡ 0
false-among k n = sum_below-same (λ i. one_if (false && (k == i))) (λ i. 0) n (λ i lt. refl)
    ∙ sum_below-zero n

among : (b : Bool) (k n : ℕ) → (b ≡ true → k < n) → sum_below (λ i. one_if (b && (k == i))) n
    ≡ one_if b
among true k n h = one-among true k n (h refl)
among false k n h = false-among k n

-- a count, by the values of a key
pub buckets : {A : Type 0} (P : A → Bool) (key : A → ℕ) (n : ℕ) (xs : List A)
    → ((x : A) → IsIn x xs → P x ≡ true → key x < n)
    → count_by P xs ≡ sum_below (λ i. count_by (λ x. P x && (key x == i)) xs) n
buckets P key n [] h = sym (sum_below-zero n)
buckets {A} P key n (x ∷ xs) h =
    let f : A → ℕ = λ y. one_if (P y) in
    let F : ℕ → A → ℕ = λ i y. one_if (P y && (key y == i)) in
    let cons : sum_by f (x ∷ xs) ≡ f x + sum_by f xs = sum_by-cons f x xs in
    let rest : sum_by f xs ≡ sum_below (λ i. sum_by (F i) xs) n =
    buckets P key n xs (λ y i t. h y (inr i) t) in
    let here : sum_below (λ i. F i x) n ≡ f x = among (P x) (key x) n (h x (inl refl)) in
    let both : sum_below (λ i. F i x + sum_by (F i) xs) n ≡ sum_below (λ i. F i x) n + sum_below
    (λ i. sum_by (F i) xs) n = sum_below-plus (λ i. F i x) (λ i. sum_by (F i) xs) n in
    let each : sum_below (λ i. sum_by (F i) (x ∷ xs)) n ≡ sum_below
    (λ i. F i x + sum_by (F i) xs) n =
    sum_below-same (λ i. sum_by (F i) (x ∷ xs)) (λ i. F i x + sum_by (F i) xs) n
    (λ i lt. sum_by-cons (F i) x xs) in
    omega arith

-- two sums in the other order
pub sums-swapped : {A : Type 0} (F : A → ℕ → ℕ) (n : ℕ) (xs : List A)
    → sum_by (λ x. sum_below (F x) n) xs ≡ sum_below (λ i. sum_by (λ x. F x i) xs) n
sums-swapped F n [] = sym (sum_below-zero n)
sums-swapped {A} F n (x ∷ xs) =
    let cons : sum_by (λ y. sum_below (F y) n) (x ∷ xs) ≡ sum_below (F x) n + sum_by
    (λ y. sum_below (F y) n) xs =
    sum_by-cons (λ y. sum_below (F y) n) x xs in
    let rest : sum_by (λ y. sum_below (F y) n) xs ≡ sum_below (λ i. sum_by (λ y. F y i) xs) n =
    sums-swapped F n xs in
    let both : sum_below (λ i. F x i + sum_by (λ y. F y i) xs) n ≡ sum_below (F x) n + sum_below
    (λ i. sum_by (λ y. F y i) xs) n = sum_below-plus (F x) (λ i. sum_by (λ y. F y i) xs) n in
    let each : sum_below (λ i. sum_by (λ y. F y i) (x ∷ xs)) n ≡ sum_below
    (λ i. F x i + sum_by (λ y. F y i) xs) n =
    sum_below-same (λ i. sum_by (λ y. F y i) (x ∷ xs)) (λ i. F x i + sum_by (λ y. F y i) xs) n
    (λ i lt. sum_by-cons (λ y. F y i) x xs) in
    omega arith

pub sum-same : {A : Type 0} (f g : A → ℕ) (xs : List A) → ((x : A) → IsIn x xs → f x ≡ g x)
    → sum_by f xs ≡ sum_by g xs
sum-same f g [] h = refl
sum-same f g (x ∷ xs) h = let r : sum_by f xs ≡ sum_by g xs =
    sum-same f g xs (λ y i. h y (inr i)) in let e = h x (inl refl) in
    let a = sum_by-cons f x xs in let b = sum_by-cons g x xs in omega arith

abbrev pub claim_count : Known → ℕ
claim_count p = claimed_mark_count p.marks

mark-is : (h g : ℕ) (m : Mark) → kind_place m.kind < 8
    → one_if ((is_claim m && (m.handle == h)) && (m.generation == g)) ≡ one_if
    (is_mark h (8 * g + 3) m)
mark-is h g m small = grind (arith, nat_tests)

is-true : (h : ℕ) (m : Mark) → (is_claim m && (m.handle == h)) ≡ true → m.handle ≡ h
is-true h m e = grind (arith, nat_tests)

due-yes : (s G g : ℕ) → s ≤ g → g < G → one_if (is_due s (8 * G + 0) (8 * g + 3)) ≡ 1
due-yes s G g lo hi = grind (arith, nat_tests)

due-no : (s G g : ℕ) → g < s → one_if (is_due s (8 * G + 0) (8 * g + 3)) ≡ 0
due-no s G g lo = grind (arith, nat_tests)

due-part : (s G n : ℕ) → n ≤ G → sum_below (λ g. one_if (is_due s (8 * G + 0) (8 * g + 3))) n
    ≡ n - s
due-part s G zero le = omega arith
due-part s G (suc n) le = let r = due-part s G n (omega arith) in dite (dec_le s n)
    (λ lo. let e = due-yes s G n lo (omega arith) in omega arith)
    (λ hi. let e = due-no s G n (omega arith) in omega arith)

due-count : (s G : ℕ) → sum_below (λ g. one_if (is_due s (8 * G + 0) (8 * g + 3))) G ≡ G - s
due-count s G = due-part s G G (omega arith)

module _ (c : Config) (ws : List Word) (parts : List Known) (s : StandsByRank c ws parts) where
  -- the claims of one handle
  of-handle : (h : ℕ) (w : Word) → get_elem? ws h ≡ some w → word_place w ≡ 0
      → sum_by (λ (p : Known). count_by (λ m. is_claim m && (m.handle == h)) p.marks) parts
      ≡ w.generation - c.start
  of-handle h w at idle =
      let hs : StandsForHandleByRank c parts h w = s.each_handle h w at in
      let G : ℕ = w.generation in
      let by-generation : (p : Known) → IsIn p parts
      → count_by (λ m. is_claim m && (m.handle == h)) p.marks ≡ sum_below
      (λ g. count_at_rank h (8 * g + 3) p.marks) G = λ p i.
      buckets (λ m. is_claim m && (m.handle == h)) (λ m. m.generation) G p.marks (λ m j t. let lt =
      mark-below-word c parts h w hs p i m j (is-true h m t) in omega arith)
      ∙ sum_below-same (λ g. count_by
      (λ m. (is_claim m && (m.handle == h)) && (m.generation == g)) p.marks)
      (λ g. count_at_rank h (8 * g + 3) p.marks) G
      (λ g lt. sum-same (λ m. one_if ((is_claim m && (m.handle == h)) && (m.generation == g)))
      (λ m. one_if (is_mark h (8 * g + 3) m)) p.marks
      (λ m j. mark-is h g m (kind_place-small m.kind))) in
      sum-same (λ (p : Known). count_by (λ m. is_claim m && (m.handle == h)) p.marks)
      (λ (p : Known). sum_below (λ g. count_at_rank h (8 * g + 3) p.marks) G) parts by-generation
      ∙ (sums-swapped (λ (p : Known) g. count_at_rank h (8 * g + 3) p.marks) G parts
      ∙ (sum_below-same (λ g. total_at_rank h (8 * g + 3) parts)
      (λ g. one_if (is_due c.start (8 * G + 0) (8 * g + 3))) G (λ g lt. hs.counted (8 * g + 3)
      ∙ ap (λ (r : ℕ). one_if (is_due c.start r (8 * g + 3))) (let e : word_rank w ≡ 8 * G + 0 =
      omega arith in e))
      ∙ due-count c.start G))

  -- all claims, handle by handle
  pub all-claims : (G : ℕ → ℕ)
      → ((h : ℕ) → h < handle_count c → (w : Word) × (get_elem? ws h ≡ some w) × (word_place w ≡ 0)
      × (w.generation ≡ G h)) → sum_by claim_count parts
      ≡ sum_below (λ h. G h - c.start) (handle_count c)
  all-claims G each =
      sum-same claim_count (λ (p : Known). sum_below
      (λ h. count_by (λ m. is_claim m && (m.handle == h)) p.marks) (handle_count c)) parts
      (λ p i. buckets is_claim (λ m. m.handle) (handle_count c) p.marks
      (λ m j t. (s.each_list p i).in_range m j))
      ∙ (sums-swapped (λ (p : Known) h. count_by (λ m. is_claim m && (m.handle == h)) p.marks)
      (handle_count c) parts
      ∙ sum_below-same (λ h. sum_by
      (λ (p : Known). count_by (λ m. is_claim m && (m.handle == h)) p.marks) parts)
      (λ h. G h - c.start) (handle_count c)
      (λ h lt. let (w, at, idle, gen) = each h lt in of-handle h w at idle
      ∙ ap (λ (z : ℕ). z - c.start) gen))

sum_below-first : (f : ℕ → ℕ) (n : ℕ) → sum_below f (suc n) ≡ f 0 + sum_below (λ i. f (suc i)) n
sum_below-first f zero = omega arith
sum_below-first f (suc n) = let r = sum_below-first f n in omega arith

-- a sum over a list, by the places of its elements
sum-by-place : (f : Word → ℕ) (d : Word) (ws : List Word)
    → sum_by f ws ≡ sum_below (λ h. f (get_or ws h d)) (length ws)
sum-by-place f d [] = refl
sum-by-place f d (w ∷ ws) =
    let rest : sum_by f ws ≡ sum_below (λ h. f (get_or ws h d)) (length ws) = sum-by-place f d ws in
    let cons : sum_by f (w ∷ ws) ≡ f w + sum_by f ws = sum_by-cons f w ws in
    let first : sum_below (λ h. f (get_or (w ∷ ws) h d)) (suc (length ws)) ≡ f w + sum_below
    (λ h. f (get_or ws h d)) (length ws) =
    sum_below-first (λ h. f (get_or (w ∷ ws) h d)) (length ws) in
    let goal : sum_by f (w ∷ ws) ≡ sum_below (λ h. f (get_or (w ∷ ws) h d)) (suc (length ws)) =
    omega arith in goal

at-place : (ws : List Word) (h : ℕ) (d : Word) → h < length ws
    → get_elem? ws h ≡ some (get_or ws h d)
at-place [] h d lt = absurd (omega arith)
at-place (w ∷ ws) zero d lt = refl
at-place (w ∷ ws) (suc h) d lt = at-place ws h d (omega arith)

split-claims : (b : Bool) (n : ℕ) → cond b n 0 + cond b 0 n ≡ n
split-claims true n = omega arith
split-claims false n = omega arith

-- each actor is a backend or a runner
both-claims : (c : Config) (parts : List Known)
    → by_backends c parts + by_runners c parts ≡ sum_by claim_count parts
both-claims c [] = refl
both-claims c (p ∷ parts) =
    let f : Known → ℕ = λ q. cond (nat_lt q.number c.backends) (claim_count q) 0 in
    let g : Known → ℕ = λ q. cond (nat_lt q.number c.backends) 0 (claim_count q) in
    let rest : sum_by f parts + sum_by g parts ≡ sum_by claim_count parts = both-claims c parts in
    let here : f p + g p ≡ claim_count p = split-claims (nat_lt p.number c.backends)
    (claim_count p) in
    let a : sum_by f (p ∷ parts) ≡ f p + sum_by f parts = sum_by-cons f p parts in
    let b : sum_by g (p ∷ parts) ≡ g p + sum_by g parts = sum_by-cons g p parts in
    let d : sum_by claim_count (p ∷ parts) ≡ claim_count p + sum_by claim_count parts =
    sum_by-cons claim_count p parts in
    let goal : sum_by f (p ∷ parts) + sum_by g (p ∷ parts) ≡ sum_by claim_count (p ∷ parts) =
    omega arith in goal

-- where all handles are free or handed out, as many were claimed as are over
pub totals-agree : (c : Config) (ws : List Word) (parts : List Known) → StandsByRank c ws parts
    → ((h : ℕ) (w : Word) → get_elem? ws h ≡ some w → word_place w ≡ 0)
    → incarnations c ws ≡ by_backends c parts + by_runners c parts
totals-agree c ws parts s idle =
    let d : Word = first_word c in
    let sum : sum_by (λ (w : Word). w.generation - c.start) ws ≡ sum_below
    (λ h. (get_or ws h d).generation - c.start) (length ws) =
    sum-by-place (λ (w : Word). w.generation - c.start) d ws in
    let all : sum_by claim_count parts ≡ sum_below (λ h. (get_or ws h d).generation - c.start)
    (handle_count c) =
    all-claims c ws parts s (λ h. (get_or ws h d).generation)
    (λ h lt. let inside : h < length ws = let one_per_handle = s.one_per_handle in omega arith in
    let at = at-place ws h d inside in (get_or ws h d, at, idle h (get_or ws h d) at, refl)) in
    sum ∙ (ap (λ (n : ℕ). sum_below (λ h. (get_or ws h d).generation - c.start) n) s.one_per_handle
    ∙ (sym all ∙ sym (both-claims c parts)))
