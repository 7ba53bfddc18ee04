-- A count that was raised, and raised again.
use Rattle.std.proofs.Common.{◌≡◌, ℕ, ◌+◌, ◌-◌, ◌^◌, ◌≤◌, min, max, sym, ap, ◌∙◌, arith}
use Rattle.std.proofs.Math.Nat.{min-le_left, min-le_right, min-eq_left, min-eq_right, max-eq_left}
use Rattle.std.proofs.Math.Nat.{max-eq_right, max-le}
use mathlib.Core.Logic.{dite}
use native.Mathlib.Decide.{dec_le}
use Rattle.aio_disk.specs.Counts.{count_plus}

pub raised_none : (x : ℕ) → x ≡ count_plus 0 x
raised_none x = sym (max-eq_left {n = x} {m = min (x + 0) (2 ^ 64 - 1)}
    (let m = min-le_left (x + 0) (2 ^ 64 - 1) in omega arith))

-- as far as the count goes
raised_low : (more x : ℕ) → x + more ≤ 2 ^ 64 - 1 → count_plus more x ≡ x + more
raised_low more x low =
    let m : min (x + more) (2 ^ 64 - 1) ≡ x + more =
    min-eq_left {n = x + more} {m = 2 ^ 64 - 1} low in
    ap (max x) m ∙ max-eq_right {n = x} {m = x + more} (omega arith)

raised_high : (more x : ℕ) → 2 ^ 64 - 1 ≤ x + more → x ≤ 2 ^ 64 - 1
    → count_plus more x ≡ 2 ^ 64 - 1
raised_high more x high fits =
    let m : min (x + more) (2 ^ 64 - 1) ≡ 2 ^ 64 - 1 =
    min-eq_right {n = 2 ^ 64 - 1} {m = x + more} high in
    ap (max x) m ∙ max-eq_right {n = x} {m = 2 ^ 64 - 1} fits

raised_over : (more x : ℕ) → 2 ^ 64 - 1 ≤ x → count_plus more x ≡ x
raised_over more x high = max-eq_left {n = x} {m = min (x + more) (2 ^ 64 - 1)}
    (let m = min-le_right (x + more) (2 ^ 64 - 1) in omega arith)

pub raised_twice : (n more x : ℕ) → count_plus more (count_plus n x) ≡ count_plus (n + more) x
raised_twice n more x = dite (dec_le (2 ^ 64 - 1) x)
    (λ over. ap (count_plus more) (raised_over n x over) ∙ (raised_over more x over
    ∙ sym (raised_over (n + more) x over)))
    (λ below. dite (dec_le (x + n) (2 ^ 64 - 1))
    (λ low. ap (count_plus more) (raised_low n x low) ∙ dite (dec_le (x + n + more) (2 ^ 64 - 1))
    (λ still. raised_low more (x + n) still
    ∙ ((let same : x + n + more ≡ x + (n + more) = omega arith in same)
    ∙ sym (raised_low (n + more) x (omega arith))))
    (λ no. raised_high more (x + n) (omega arith) low
    ∙ sym (raised_high (n + more) x (omega arith) (omega arith))))
    (λ high. ap (count_plus more) (raised_high n x (omega arith) (omega arith))
    ∙ (raised_over more (2 ^ 64 - 1) (omega arith)
    ∙ sym (raised_high (n + more) x (omega arith) (omega arith)))))

-- a count that was raised by so many
pub raised_within : (count more before results after : ℕ) → count ≡ count_plus more before
    → before ≤ results → results + more ≤ after → count ≤ after
raised_within count more before results after is le sum =
    let m = min-le_left (before + more) (2 ^ 64 - 1) in
    let most : count_plus more before ≤ before + more =
    max-le {a = before} {b = min (before + more) (2 ^ 64 - 1)} {k = before + more} (omega arith) m
    in
    omega arith
