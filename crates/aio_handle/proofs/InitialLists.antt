-- The lists of the actors at the start.
use Rattle.std.proofs.Common.{◌≡◌, ◌≢◌, ℕ, zero, suc, ◌+◌, ◌-◌, ◌<◌, ◌≤◌, ◌==◌, Bool, true, false}
use Rattle.std.proofs.Common.{List, [], ◌∷◌, length, sum_by, le_refl, refl, sym, ap, ◌∙◌, subst}
use Rattle.std.proofs.Common.{⊎_elim, arith}
use Rattle.std.proofs.lemmas.List.Sums.{sum_by-cons}
use Rattle.std.proofs.lemmas.Bool.Decides.{nat_tests}
use mathlib.Core.Logic.{dite}
use native.Mathlib.Decide.{ℕ_discrete}
use Rattle.atomic_table.specs.Table.{Me}
use Rattle.aio_word.specs.declared.Config.{Config}
use Rattle.aio_word.specs.declared.Known.{Known}
use Rattle.aio_word.specs.Events.{count_at_rank}
use Rattle.aio_word.specs.Stands.{IsIn, one_if, total_at_rank, IsLawfulList}
use Rattle.aio_handle.specs.Seats.{rest_of}
use Rattle.aio_handle.specs.TableInvariant.{initial_known, initial_known_from}

-- an actor at the start
pub record IsNew (c : Config) (a k : ℕ) (q : Known) : Type 0 where
  pub number : ℕ
  pub low : a ≤ number
  pub high : number < a + k
  pub is : initial_known c number ≡ q

pub initial-in : (c : Config) (a k : ℕ) (q : Known) → IsIn q (initial_known_from c a k)
    → IsNew c a k q
initial-in c a zero q i = absurd i
initial-in c a (suc k) q i = ⊎_elim
    (λ e. record { number = a; low = le_refl a; high = omega arith; is = e })
    (λ t. let r = initial-in c (a + 1) k q t in let lo = r.low in let hi = r.high in
    record { number = r.number; low = omega arith; high = omega arith; is = r.is }) i

pub none-new : (c : Config) (h n a k : ℕ) → total_at_rank h n (initial_known_from c a k) ≡ 0
none-new c h n a zero = refl
none-new c h n a (suc k) =
    let rest : total_at_rank h n (initial_known_from c (a + 1) k) ≡ 0 = none-new c h n (a + 1) k in
    let f : Known → ℕ = λ p. count_at_rank h n p.marks in
    let here : f (initial_known c a) ≡ 0 = refl in
    let cons : sum_by f (initial_known c a ∷ initial_known_from c (a + 1) k) ≡ f (initial_known c a)
    + sum_by f
    (initial_known_from c (a + 1) k) = sum_by-cons f (initial_known c a)
    (initial_known_from c (a + 1) k) in
    let goal : sum_by f (initial_known c a ∷ initial_known_from c (a + 1) k) ≡ 0 = omega arith in
    goal

one-if-no : (a b : ℕ) → a ≢ b → one_if (a == b) ≡ 0
one-if-no a b h = grind (arith, nat_tests)

one-if-le : (b : Bool) → one_if b ≤ 1
one-if-le true = omega arith
one-if-le false = omega arith

number-above : (c : Config) (n a k : ℕ) → n < a
    → sum_by (λ (p : Known). one_if (p.number == n)) (initial_known_from c a k) ≡ 0
number-above c n a zero lt = refl
number-above c n a (suc k) lt =
    let f : Known → ℕ = λ p. one_if (p.number == n) in
    let here : f (initial_known c a) ≡ 0 = one-if-no a n (λ e. omega arith) in
    let rest : sum_by f (initial_known_from c (a + 1) k) ≡ 0 = number-above c n (a + 1) k
    (omega arith) in
    let all = sum_by-cons f (initial_known c a) (initial_known_from c (a + 1) k) in omega arith

pub initial-numbers : (c : Config) (n a k : ℕ)
    → sum_by (λ (p : Known). one_if (p.number == n)) (initial_known_from c a k) ≤ 1
initial-numbers c n a zero = omega arith
initial-numbers c n a (suc k) =
    let f : Known → ℕ = λ p. one_if (p.number == n) in
    let all : sum_by f (initial_known c a ∷ initial_known_from c (a + 1) k) ≡ f (initial_known c a)
    + sum_by f
    (initial_known_from c (a + 1) k) = sum_by-cons f (initial_known c a)
    (initial_known_from c (a + 1) k) in
    let le : f (initial_known c a) ≤ 1 = one-if-le (a == n) in
    dite (ℕ_discrete a n)
    (λ e. let none' : sum_by f (initial_known_from c (a + 1) k) ≡ 0 = number-above c n (a + 1) k
    (omega arith) in omega arith)
    (λ ne. let no : f (initial_known c a) ≡ 0 = one-if-no a n ne in
    let rest : sum_by f (initial_known_from c (a + 1) k) ≤ 1 = initial-numbers c n (a + 1) k in
    omega arith)

one-if-yes : (n : ℕ) → one_if (n == n) ≡ 1
one-if-yes n = grind (arith, nat_tests)

pub present-new : (c : Config) (n a k : ℕ) → a ≤ n → n < a + k
    → 0 < sum_by (λ (p : Known). one_if (p.number == n)) (initial_known_from c a k)
present-new c n a zero lo hi = absurd (omega arith)
present-new c n a (suc k) lo hi =
    let f : Known → ℕ = λ p. one_if (p.number == n) in
    let all : sum_by f (initial_known c a ∷ initial_known_from c (a + 1) k) ≡ f (initial_known c a)
    + sum_by f
    (initial_known_from c (a + 1) k) = sum_by-cons f (initial_known c a)
    (initial_known_from c (a + 1) k) in
    dite (ℕ_discrete a n)
    (λ e. let one : f (initial_known c a) ≡ 1 = subst (λ (z : ℕ). one_if (z == n) ≡ 1) (sym e)
    (one-if-yes n) in omega arith)
    (λ ne. let r : 0 < sum_by f (initial_known_from c (a + 1) k) = present-new c n (a + 1) k
    (omega arith)
    (omega arith) in omega arith)

pub length-new : (c : Config) (a k : ℕ) → length (initial_known_from c a k) ≡ k
length-new c a zero = refl
length-new c a (suc k) = ap suc (length-new c (a + 1) k)

pub list-new : (c : Config) (n : ℕ) → IsLawfulList c (initial_known c n)
list-new c n =
    record {
      in_range = λ m i. absurd i;
      in_owner_list = λ m i. absurd i;
      ordered =
          λ i j d lt below. absurd (omega arith);
    }

next-new : (c : Config) (n k : ℕ) → n < k
    → initial_known_from c n (k - n) ≡ initial_known c n ∷ initial_known_from c (n + 1)
    (k - (n + 1))
next-new c n k lt = ap (initial_known_from c n)
    (let e : k - n ≡ suc (k - (n + 1)) = omega arith in e)

pub next-view : {S : Type 0} (c : Config) (n k : ℕ) (me : Me S (List Known)) → n < k
    → me ≡ (initial_known_from c n (k - n), [])
    → me ≡ (initial_known c n ∷ initial_known_from c (n + 1) (k - (n + 1)), [])
next-view c n k me lt e = e ∙ ap (λ (v : List Known). (v, [])) (next-new c n k lt)

pub after-deal : {S : Type 0} (c : Config) (n k : ℕ) (me me' : Me S (List Known)) → n < k
    → me ≡ (initial_known_from c n (k - n), []) → me' ≡ (rest_of me.0, [])
    → me' ≡ (initial_known_from c (n + 1) (k - (n + 1)), [])
after-deal c n k me me' lt e is = is ∙ ap (λ (v : Me _ (List Known)). (rest_of v.0, []))
    (next-view c n k me lt e)
