-- The lines of the line pointers from one on.
use Rattle.std.proofs.Common.{◌≡◌, ℕ, zero, suc, ◌+◌, ◌-◌, ◌<◌, List, [], ◌++◌, map, arith, ap, ◌∙◌, sym}
use Rattle.std.proofs.Common.{append_assoc}
use Rattle.std.specs.List.{range_with_len}
use Rattle.page_check.specs.declared.fields.LinePointer.{LinePointer}
use Rattle.heap_scan.specs.PageText.{item_line, item_lines, lines_from}

pub lines_from-none : (f : ℕ → LinePointer) (k n : ℕ) → n ≡ k → lines_from f k (n - k) ≡ []
unfolding lines_from
lines_from-none f k n e =
    let none : n - k ≡ 0 = omega arith in
    ap (λ (more : ℕ). lines_from f k more) none

pub lines_from-more : (f : ℕ → LinePointer) (k n : ℕ) → k < n
    → lines_from f k (n - k) ≡ item_line (k + 1, f k) ++ lines_from f (k + 1) (n - (k + 1))
unfolding lines_from
lines_from-more f k n below =
    let one : n - k ≡ suc (n - (k + 1)) = omega arith in
    ap (λ (more : ℕ). lines_from f k more) one

pub lines_from-all : (f : ℕ → LinePointer) (n : ℕ)
    → lines_from f 0 (n - 0) ≡ item_lines (map f (range_with_len 0 n))
unfolding lines_from item_lines
lines_from-all f n = let same : n - 0 ≡ n =
    omega arith in ap (λ (more : ℕ). lines_from f 0 more) same

-- the lines of some line pointers, and then of more
pub lines_from-joined : (f : ℕ → LinePointer) (k some more : ℕ)
    → lines_from f k some ++ lines_from f (k + some) more ≡ lines_from f k (some + more)
unfolding lines_from
lines_from-joined f k zero more =
    let same : k + zero ≡ k = omega arith in
    let none : zero + more ≡ more = omega arith in
    ap (λ (n : ℕ). lines_from f n more) same ∙ ap (λ (n : ℕ). lines_from f k n) (sym none)
lines_from-joined f k (suc some) more =
    let one : k + suc some ≡ k + 1 + some = omega arith in
    let all : suc some + more ≡ suc (some + more) = omega arith in
    let first = item_line (k + 1, f k) in
    let rest = lines_from f (k + 1) some in
    ap (λ (n : ℕ). lines_from f k (suc some) ++ lines_from f n more) one
    ∙ append_assoc first rest (lines_from f (k + 1 + some) more)
    ∙ ap (λ (lines : List ℕ). first ++ lines) (lines_from-joined f (k + 1) some more)
    ∙ ap (λ (n : ℕ). lines_from f k n) (sym all)
