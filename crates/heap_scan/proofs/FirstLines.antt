-- What the first line of a page's text tells.
use Rattle.std.proofs.Common.{◌≡◌, ℕ, ◌+◌, ◌%◌, ◌^◌, ◌<◌, ◌≤◌, List, [], ◌∷◌, ◌++◌, refl, ap, ◌∙◌}
use Rattle.std.proofs.Common.{sym, arith, codes, get_or}
use Rattle.std.specs.Prelude.{decimal}
use Rattle.std.proofs.lemmas.Fmt.{decimal_by_steps, decimal_injective}
use Rattle.page_check.specs.declared.fields.PageHeader.{PageHeader}
use Rattle.page_check.specs.declared.verdict.Verdict.{Verdict}
use Rattle.page_check.specs.declared.verdict.Verdict.TheVariants.{Zero, Sane, Bad}
use Rattle.page_check.specs.Fields.{header_of}
use Rattle.page_check.specs.Verdict.{verdict_of, IsValid}
use Rattle.page_check.specs.LinePointers.{line_pointer_count}
use Rattle.page_check.proofs.ValidPages.{is_all_zero-verdict, is_sane-verdict, header_of-zero}
use Rattle.page_check.proofs.ValidPages.{sane_bounds}
use Rattle.heap_scan.specs.PageText.{first_line, new_line, page_line, PrintsSame, FirstLineTells}
use Rattle.heap_scan.proofs.Texts.{first_line-new, first_line-used}

-- each byte is above 47, as digits are and a blank is not
abbrev AreDigits : List ℕ → Type 0
AreDigits [] = Unit {0}
AreDigits (d ∷ ds) = (47 < d) × AreDigits ds

digits_at_end : (ds : List ℕ) (d : ℕ) → AreDigits ds → 47 < d → AreDigits (ds ++ (d ∷ []))
digits_at_end [] d all above = (above, tt)
digits_at_end (x ∷ ds) d all above = (all.0, digits_at_end ds d all.1 above)

decimal_digits : (n : ℕ) → n < 2 ^ 64 → AreDigits (decimal n)
decimal_digits n small =
    decimal_by_steps (λ k ds. AreDigits ds) (λ k below. (omega arith, tt))
    (λ k ds above front. digits_at_end ds (48 + k % 10) front (omega arith)) n small

-- digits end where the same other byte stands behind them
same_digits : (ds es xs ys : List ℕ) (end : ℕ) → end ≤ 47 → AreDigits ds → AreDigits es
    → ds ++ (end ∷ xs) ≡ es ++ (end ∷ ys) → (ds ≡ es) × (xs ≡ ys)
same_digits [] [] xs ys end low all each same = (refl, cc)
same_digits [] (e ∷ es) xs ys end low all each same =
    let first : end ≡ e = cc in
    let above : 47 < e = each.0 in
    absurd (omega arith)
same_digits (d ∷ ds) [] xs ys end low all each same =
    let first : d ≡ end = cc in
    let above : 47 < d = all.0 in
    absurd (omega arith)
same_digits (d ∷ ds) (e ∷ es) xs ys end low all each same =
    let first : d ≡ e = cc in
    let behind : ds ++ (end ∷ xs) ≡ es ++ (end ∷ ys) = cc in
    let both = same_digits ds es xs ys end low all.1 each.1 behind in
    let same_rest : ds ≡ es = both.0 in
    (cc, both.1)

same_number : (m n end : ℕ) (xs ys : List ℕ) → m < 2 ^ 64 → n < 2 ^ 64 → end ≤ 47
    → decimal m ++ (end ∷ xs) ≡ decimal n ++ (end ∷ ys) → (m ≡ n) × (xs ≡ ys)
same_number m n end xs ys small few low same =
    let both = same_digits (decimal m) (decimal n) xs ys end low (decimal_digits m small)
    (decimal_digits n few) same in
    (decimal_injective m n small few both.0, both.1)

-- `page R B` and a blank, with the same behind it only where R and B are the same
same_place : (r b s c : ℕ) (xs ys : List ℕ) → r < 2 ^ 32 → b < 2 ^ 32 → s < 2 ^ 32 → c < 2 ^ 32
    → codes "page " ++ (decimal r ++ (codes " " ++ (decimal b ++ (32 ∷ xs))))
    ≡ codes "page " ++ (decimal s ++ (codes " " ++ (decimal c ++ (32 ∷ ys))))
    → (r ≡ s) × (b ≡ c) × (xs ≡ ys)
same_place r b s c xs ys r_small b_small s_small c_small same =
    let first : decimal r ++ (32 ∷ (decimal b ++ (32 ∷ xs))) ≡ decimal s
    ++ (32 ∷ (decimal c ++ (32 ∷ ys))) = cc in
    let relation = same_number r s 32 _ _ (omega arith) (omega arith) (omega arith) first in
    let block = same_number b c 32 _ _ (omega arith) (omega arith) (omega arith) relation.1 in
    (relation.0, block.0, block.1)

new_lines : (r b s c : ℕ) → r < 2 ^ 32 → b < 2 ^ 32 → s < 2 ^ 32 → c < 2 ^ 32
    → new_line r b ≡ new_line s c → (r ≡ s) × (b ≡ c)
new_lines r b s c r_small b_small s_small c_small same =
    let place = same_place r b s c _ _ r_small b_small s_small c_small same in
    (place.0, place.1)

new_and_used : (r b s c : ℕ) (header : PageHeader) (items : ℕ) → r < 2 ^ 32 → b < 2 ^ 32
    → s < 2 ^ 32 → c < 2 ^ 32
    → new_line r b ≡ page_line s c header items → ⊥
new_and_used r b s c header items r_small b_small s_small c_small same =
    let place = same_place r b s c _ _ r_small b_small s_small c_small same in
    let first : ◌≡◌ {A = ℕ} 110 108 = ap (λ (l : List ℕ). get_or l 0 0) place.2 in
    absurd (omega arith)

-- the four numbers of a header's line
pub record SameNumbers (h k : PageHeader) : Type 0 where
  pub lower : h.lower ≡ k.lower
  pub upper : h.upper ≡ k.upper
  pub special : h.special ≡ k.special

abbrev IsSmall : PageHeader → Type 0
IsSmall h = (h.lower ≤ 8192) × (h.upper ≤ 8192) × (h.special ≤ 8192)

used_lines : (r b s c : ℕ) (h k : PageHeader) (items others : ℕ) → r < 2 ^ 32 → b < 2 ^ 32
    → s < 2 ^ 32 → c < 2 ^ 32
    → IsSmall h → IsSmall k → page_line r b h items ≡ page_line s c k others
    → (r ≡ s) × (b ≡ c) × SameNumbers h k
used_lines r b s c h k items others r_small b_small s_small c_small h_small k_small same =
    let place = same_place r b s c _ _ r_small b_small s_small c_small same in
    let h_lower : h.lower ≤ 8192 = h_small.0 in
    let h_upper : h.upper ≤ 8192 = h_small.1 in
    let h_special : h.special ≤ 8192 = h_small.2 in
    let k_lower : k.lower ≤ 8192 = k_small.0 in
    let k_upper : k.upper ≤ 8192 = k_small.1 in
    let k_special : k.special ≤ 8192 = k_small.2 in
    let lower = same_number h.lower k.lower 32
    (codes "upper "
    ++ (decimal h.upper
    ++ (32 ∷ (codes "special "
    ++ (decimal h.special ++ (32 ∷ (codes "items " ++ (decimal items ++ codes "\n"))))))))
    (codes "upper "
    ++ (decimal k.upper
    ++ (32 ∷ (codes "special "
    ++ (decimal k.special ++ (32 ∷ (codes "items " ++ (decimal others ++ codes "\n"))))))))
    (omega arith) (omega arith) (omega arith) (let behind = place.2 in cc) in
    let upper = same_number h.upper k.upper 32
    (codes "special "
    ++ (decimal h.special ++ (32 ∷ (codes "items " ++ (decimal items ++ codes "\n")))))
    (codes "special "
    ++ (decimal k.special ++ (32 ∷ (codes "items " ++ (decimal others ++ codes "\n")))))
    (omega arith) (omega arith) (omega arith) (let behind = lower.1 in cc) in
    let special =
    same_number h.special k.special 32 (codes "items " ++ (decimal items ++ codes "\n"))
    (codes "items " ++ (decimal others ++ codes "\n"))
    (omega arith) (omega arith) (omega arith) (let behind = upper.1 in cc) in
    (place.0, place.1, record { lower = lower.0; upper = upper.0; special = special.0 })

telling_by : (verdict other_verdict : Verdict) (relation block : ℕ) (page : List ℕ) (r b : ℕ)
    (other : List ℕ)
    → verdict_of page ≡ verdict → verdict_of other ≡ other_verdict → relation < 2 ^ 32
    → block < 2 ^ 32 → r < 2 ^ 32 → b < 2 ^ 32
    → IsValid page → IsValid other → first_line r b other ≡ first_line relation block page
    → (r ≡ relation) × (b ≡ block) × PrintsSame page other
telling_by Bad other_verdict relation block page r b other is other_is r0 b0 r1 b1 valid other_valid
    same = absurd (valid is)
telling_by Zero Bad relation block page r b other is other_is r0 b0 r1 b1 valid other_valid same =
    absurd (other_valid other_is)
telling_by Sane Bad relation block page r b other is other_is r0 b0 r1 b1 valid other_valid same =
    absurd (other_valid other_is)
telling_by Zero Zero relation block page r b other is other_is r0 b0 r1 b1 valid other_valid same =
    let lines = sym (first_line-new r b other other_is) ∙ same
    ∙ first_line-new relation block page is in
    let place = new_lines r b relation block r1 b1 r0 b0 lines in
    let zero = header_of-zero page (is_all_zero-verdict page is) in
    let other_zero = header_of-zero other (is_all_zero-verdict other other_is) in (
      place.0,
      place.1,
      record {
        verdict = other_is ∙ sym is;
        lower = other_zero.0 ∙ sym zero.0;
        upper = other_zero.1 ∙ sym zero.1;
        special = other_zero.2 ∙ sym zero.2;
      },
    )
telling_by Zero Sane relation block page r b other is other_is r0 b0 r1 b1 valid other_valid same =
    let lines = sym (first_line-new relation block page is) ∙ sym same
    ∙ first_line-used r b other other_is in
    absurd (new_and_used relation block r b (header_of other) (line_pointer_count other) r0 b0 r1 b1
    lines)
telling_by Sane Zero relation block page r b other is other_is r0 b0 r1 b1 valid other_valid same =
    let lines = sym (first_line-new r b other other_is) ∙ same
    ∙ first_line-used relation block page is in
    absurd (new_and_used r b relation block (header_of page) (line_pointer_count page) r1 b1 r0 b0
    lines)
telling_by Sane Sane relation block page r b other is other_is r0 b0 r1 b1 valid other_valid same =
    let lines = sym (first_line-used r b other other_is) ∙ same
    ∙ first_line-used relation block page is in
    let bounds = sane_bounds (header_of page) (is_sane-verdict page is) in
    let other_bounds = sane_bounds (header_of other) (is_sane-verdict other other_is) in
    let place = used_lines r b relation block (header_of other) (header_of page)
    (line_pointer_count other)
    (line_pointer_count page) r1 b1 r0 b0 other_bounds bounds lines in (
      place.0,
      place.1,
      record {
        verdict = other_is ∙ sym is;
        lower = place.2.lower;
        upper = place.2.upper;
        special = place.2.special;
      },
    )

-- the first line of a valid page tells its place and its header
pub telling_of_valid : (relation block : ℕ) (page : List ℕ) → relation < 2 ^ 32 → block < 2 ^ 32
    → IsValid page → FirstLineTells relation block page
telling_of_valid relation block page r0 b0 valid =
    λ r b other r1 b1 other_valid same. telling_by (verdict_of page)
    (verdict_of other) relation block page r b other refl refl r0 b0 r1 b1 valid other_valid same
