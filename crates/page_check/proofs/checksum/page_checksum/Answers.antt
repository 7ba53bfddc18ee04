use Rattle.std.proofs.Common.{◌≡◌, ℕ, List, ◌+◌, ◌*◌, ◌≤◌, ◌<◌, suc, length, take, slice_index, refl, ap, ◌∙◌}
use Rattle.std.proofs.Common.{arith, sym, get_or, inl, inr}
use Rattle.std.proofs.Math.ListN.{set}
use Rattle.std.proofs.lemmas.Bool.{cases_eq}
use Rattle.std.proofs.lemmas.List.{get_or-set_same, get_or-set_other, get_or-take}
use Rattle.std.proofs.lemmas.List.{length-set, length-take-le}
use Rattle.page_check.specs.Fields.{u32_at}
use Rattle.page_check.specs.Checksum.{base_offsets, sum_with_word, word_of, column_sum}
use Rattle.page_check.specs.Checksum.{checksum_of, without_checksum}
use Rattle.page_check.proofs.checksum.page_checksum.Goals as goal

-- one row more in a column
sum-more : (page : List ℕ) (column row : ℕ)
    → column_sum page column (row + 1)
    ≡ sum_with_word (column_sum page column row) (word_of page row column)
unfolding column_sum
sum-more page column row =
    let more : row + 1 ≡ suc row = omega arith in
    rw more refl

-- none yet
sum-none : (page : List ℕ) (column : ℕ) → column_sum page column 0 ≡ slice_index base_offsets column
unfolding column_sum
sum-none page column = refl

-- a byte of the first row does not depend on what stands behind the row
byte-first : (page : List ℕ) (i : ℕ) → length page ≡ 8192 → i < 128
    → slice_index (without_checksum (take 128 page)) i ≡ slice_index (without_checksum page) i
byte-first page i size low =
    let front = take 128 page in
    let short : length front ≡ 128 = length-take-le 128 page (omega arith) in
    let taken : get_or front i 0 ≡ get_or page i 0 = get_or-take 128 page i 0 low in
    elim (cases_eq i 9) [
      | inl is ↦ rw is
          (get_or-set_same (set front 8 0) 9 0 0 (simp length-set (omega arith))
          ∙ sym (get_or-set_same (set page 8 0) 9 0 0 (simp length-set (omega arith))))
      | inr differs ↦
          get_or-set_other (set front 8 0) 9 i 0 0 differs
          ∙ elim (cases_eq i 8) as (λ _. get_or (set front 8 0) i 0 ≡ get_or (set page 8 0) i 0) [
            | inl is ↦ rw is
                (get_or-set_same front 8 0 0 (omega arith)
                ∙ sym (get_or-set_same page 8 0 0 (omega arith)))
            | inr other ↦
                get_or-set_other front 8 i 0 0 other
                ∙ taken ∙ sym (get_or-set_other page 8 i 0 0 other)
          ]
          ∙ sym (get_or-set_other (set page 8 0) 9 i 0 0 differs)
    ]

-- and one behind the checksum is the page's
byte-later : (page : List ℕ) (i : ℕ) → 10 ≤ i
    → slice_index page i ≡ slice_index (without_checksum page) i
byte-later page i behind =
    sym (get_or-set_other (set page 8 0) 9 i 0 0 (λ is. absurd (omega arith))
    ∙ get_or-set_other page 8 i 0 0 (λ is. absurd (omega arith)))

word-first : (page : List ℕ) (column : ℕ) → length page ≡ 8192 → column < 32
    → word_of (without_checksum (take 128 page)) 0 column
    ≡ word_of (without_checksum page) 0 column
unfolding u32_at
word-first page column size low =
    let place : 128 * 0 + 4 * column ≡ 4 * column = omega arith in
    rw place
    (let e0 = byte-first page (4 * column) size (omega arith) in
    let e1 = byte-first page (4 * column + 1) size (omega arith) in
    let e2 = byte-first page (4 * column + 2) size (omega arith) in
    let e3 = byte-first page (4 * column + 3) size (omega arith) in
    omega arith)

word-later : (page : List ℕ) (row column : ℕ) → 1 ≤ row
    → word_of page row column ≡ word_of (without_checksum page) row column
unfolding u32_at
word-later page row column behind =
    let e0 = byte-later page (128 * row + 4 * column) (omega arith) in
    let e1 = byte-later page (128 * row + 4 * column + 1) (omega arith) in
    let e2 = byte-later page (128 * row + 4 * column + 2) (omega arith) in
    let e3 = byte-later page (128 * row + 4 * column + 3) (omega arith) in
    omega arith

-- the sums after the first row
first-row : (page sums : List ℕ) (column : ℕ) → length page ≡ 8192 → column < 32
    → slice_index sums column
    ≡ sum_with_word (slice_index base_offsets column)
    (word_of (without_checksum (take 128 page)) 0 column)
    → slice_index sums column ≡ column_sum (without_checksum page) column 1
first-row page sums column size low is =
    is ∙ ap (sum_with_word (slice_index base_offsets column)) (word-first page column size low)
    ∙ ap (λ (sum : ℕ). sum_with_word sum (word_of (without_checksum page) 0 column))
    (sym (sum-none (without_checksum page) column))
    ∙ sym (sum-more (without_checksum page) column 0)

pub loop-row-init : goal.loop-row-init
loop-row-init c = λ k low.
    let page = c.args.page.now in
    let size : length page ≡ 8192 = omega (arith, ap length c.bytes-bytes.ensures.value) in
    let row = c.first_row.ensures
    ∙ ap (λ (bytes : List ℕ). without_checksum (take 128 bytes)) c.bytes-bytes.ensures.value in
    let step = c.add_row.ensures k low
    ∙ ap (λ (bytes : List ℕ). sum_with_word (slice_index base_offsets k) (word_of bytes 0 k)) row
    in
    first-row page c.add_row.new.sums k size low step

pub loop-row-preserved : goal.loop-row-preserved
loop-row-preserved c = λ k low.
    let page = c.args.page.now in
    let row = c.loop-row.row in
    let step = c.add_row-in-loop-row.ensures k low in
    let same : c.bytes-bytes.result.now ≡ page = c.bytes-bytes.ensures.value in
    let word = word-later page row k (omega arith) in
    let before = c.loop-row.invariant k low in
    step
    ∙ ap (λ (bytes : List ℕ). sum_with_word (slice_index c.loop-row.sums k) (word_of bytes row k)) same
    ∙ ap (sum_with_word (slice_index c.loop-row.sums k)) word
    ∙ ap (λ (sum : ℕ). sum_with_word sum (word_of (without_checksum page) row k)) before
    ∙ sym (sum-more (without_checksum page) k row)

pub returns : goal.returns
unfolding checksum_of
returns c =
    let page = without_checksum c.args.page.now in
    let all : c.loop-row.row ≡ 64 = omega (arith, c.loop-row.auto.row-end) in
    let joined = c.join.ensures page (λ k low. c.loop-row.invariant k low ∙ ap (column_sum page k) all) in
    rw joined refl
