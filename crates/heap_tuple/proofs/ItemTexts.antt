-- The lines of the items from one on.
use Rattle.std.proofs.Common.{◌≡◌, ℕ, zero, suc, ◌+◌, ◌-◌, ◌<◌, List, [], ◌++◌, arith, ap, sym, ◌∙◌}
use Rattle.std.proofs.Common.{append_assoc}
use Rattle.page_check.specs.LinePointers.{line_pointer_count}
use Rattle.heap_tuple.specs.TuplesText.{item_text, item_texts, texts_from}

pub texts_from-none : (page : List ℕ) (block k n : ℕ) → n ≡ k → texts_from page block k (n - k) ≡ []
unfolding texts_from
texts_from-none page block k n e =
    let none : n - k ≡ 0 = omega arith in
    ap (λ (more : ℕ). texts_from page block k more) none

pub texts_from-more : (page : List ℕ) (block k n : ℕ) → k < n
    → texts_from page block k (n - k)
    ≡ item_text page block k ++ texts_from page block (k + 1) (n - (k + 1))
unfolding texts_from
texts_from-more page block k n below =
    let one : n - k ≡ suc (n - (k + 1)) = omega arith in
    ap (λ (more : ℕ). texts_from page block k more) one

pub texts_from-all : (page : List ℕ) (block : ℕ)
    → texts_from page block 0 (line_pointer_count page - 0) ≡ item_texts page block
unfolding texts_from item_texts
texts_from-all page block =
    let same : line_pointer_count page - 0 ≡ line_pointer_count page = omega arith in
    ap (λ (more : ℕ). texts_from page block 0 more) same

-- the lines of some items, and then of more
pub texts_from-joined : (page : List ℕ) (block k some more : ℕ)
    → texts_from page block k some ++ texts_from page block (k + some) more
    ≡ texts_from page block k (some + more)
unfolding texts_from
texts_from-joined page block k zero more =
    let same : k + zero ≡ k = omega arith in
    let none : zero + more ≡ more = omega arith in
    ap (λ (n : ℕ). texts_from page block n more) same
    ∙ ap (λ (n : ℕ). texts_from page block k n) (sym none)
texts_from-joined page block k (suc some) more =
    let one : k + suc some ≡ k + 1 + some = omega arith in
    let all : suc some + more ≡ suc (some + more) = omega arith in
    let first = item_text page block k in
    let rest = texts_from page block (k + 1) some in
    ap (λ (n : ℕ). texts_from page block k (suc some) ++ texts_from page block n more) one
    ∙ append_assoc first rest (texts_from page block (k + 1 + some) more)
    ∙ ap (λ (lines : List ℕ). first ++ lines) (texts_from-joined page block (k + 1) some more)
    ∙ ap (λ (n : ℕ). texts_from page block k n) (sym all)
