-- Sums over lists of pages.
use Rattle.std.proofs.Common.{◌≡◌, ℕ, suc, ◌+◌, ◌*◌, ◌<◌, ◌≤◌, ◌^◌, List, [], ◌∷◌, ◌++◌, length}
use Rattle.std.proofs.Common.{All, get_or, sum_by, refl, ap, ◌∙◌, arith, length-append}
use Rattle.std.proofs.lemmas.List.Sums.{sum_by-append, sum_by-cons, sum_by_push}
use Rattle.page_check.specs.declared.verdict.Verdict.{Verdict}
use Rattle.page_check.specs.declared.verdict.Verdict.TheVariants.{Zero, Sane, Bad}
use Rattle.page_check.specs.PageBytes.{IsPage}
use Rattle.page_check.specs.Fields.{header_of, u16_at}
use Rattle.page_check.specs.LinePointers.{line_pointer_count}
use Rattle.page_check.specs.SynchronousAnswer.{Given}
use Rattle.page_check.specs.Verdict.{IsValid, verdict_of}
use Rattle.page_check.proofs.ValidPages.{lower_of_valid}
use Rattle.heap_scan.specs.Listing.{PageFormat, fault_count_for}
use Rattle.heap_scan.specs.declared.sums.PageSums.{PageSums}
use Rattle.heap_scan.specs.Sums.{FitSums, sums_joined, no_sums, sums_of, sums_with_page}
use Rattle.heap_scan.specs.Sums.{zero_page_count}

few_zeros : (verdict : Verdict) → zero_page_count verdict ≤ 1
few_zeros Zero = omega arith
few_zeros Sane = omega arith
few_zeros Bad = omega arith

pub few_items : (page : List ℕ) → IsValid page → line_pointer_count page ≤ 2042
unfolding line_pointer_count
few_items page valid = omega (arith, lower_of_valid page valid)

-- whatever the bytes of a page are, lower is a number of 16 bits
pub few_items_of_page : (page : List ℕ) → IsPage page → line_pointer_count page < 2 ^ 16
unfolding line_pointer_count header_of u16_at
few_items_of_page page is =
    omega (
      arith,
      is.bytes 12 0 (omega (arith, is.size)),
      is.bytes 13 0 (omega (arith, is.size)),
    )

abbrev with_sums : ℕ → ℕ → ℕ → ℕ → PageSums
with_sums a b c d = record { pages = a; zero = b; items = c; faults = d }

same_sums : (x y : PageSums) → x.pages ≡ y.pages → x.zero ≡ y.zero → x.items ≡ y.items
    → x.faults ≡ y.faults → x ≡ y
same_sums x y pages zeros items faults =
    ap (λ (n : ℕ). with_sums n x.zero x.items x.faults) pages
    ∙ ap (λ (n : ℕ). with_sums y.pages n x.items x.faults) zeros
    ∙ ap (λ (n : ℕ). with_sums y.pages y.zero n x.faults) items
    ∙ ap (λ (n : ℕ). with_sums y.pages y.zero y.items n) faults

-- a sum over a list is at most so much for each element
at_most : {X : Type 0} (f : X → ℕ) (most : ℕ) (xs : List X) → All (λ x. f x ≤ most) xs
    → sum_by f xs ≤ most * length xs
at_most f most [] each = omega arith
at_most f most (x ∷ xs) each =
    let first : f x ≤ most = each 0 x (omega arith) in
    let rest : sum_by f xs ≤ most * length xs =
    at_most f most xs (λ k d below. each (suc k) d (omega arith)) in
    let more : most * suc (length xs) ≡ most + most * length xs = grind arith in
    omega (arith, sum_by-cons f x xs)

pub sums_of-none : (P : Type 0) (format : PageFormat) → sums_of {P = P} format [] ≡ no_sums
unfolding sums_of
sums_of-none P format = refl

module _ {P : Type 0} (format : PageFormat) where
  abbrev zeros_in : Given P → ℕ
  zeros_in given = zero_page_count (verdict_of given.page)

  abbrev items_in : Given P → ℕ
  items_in given = line_pointer_count given.page

  pub sums_of-append : (front back : List (Given P))
      → sums_of format (front ++ back) ≡ sums_joined (sums_of format front) (sums_of format back)
  unfolding sums_of
  sums_of-append front back =
      same_sums _ _ (length-append front back) (sum_by-append zeros_in front back)
      (sum_by-append items_in front back) (sum_by-append (fault_count_for format) front back)

  pub sums_of-push : (pages : List (Given P)) (given : Given P)
      → sums_of format (pages ++ given ∷ [])
      ≡ sums_with_page (fault_count_for format given) (sums_of format pages) given.page
  unfolding sums_of
  sums_of-push pages given =
      same_sums _ _ (length-append pages (given ∷ [])) (sum_by_push zeros_in pages given)
      (sum_by_push items_in pages given) (sum_by_push (fault_count_for format) pages given)

  pub sums_fit : (pages : List (Given P)) → All (λ given. line_pointer_count given.page < 2 ^ 16) pages
      → All (λ given. fault_count_for format given < 2 ^ 16) pages → length pages < 2 ^ 32
      → FitSums (sums_of format pages)
  unfolding sums_of
  sums_fit pages few_pointers few_faults few =
      let zeros : sum_by zeros_in pages ≤ 1 * length pages =
      at_most zeros_in 1 pages (λ k d below. few_zeros (verdict_of (get_or pages k d).page)) in
      let items : sum_by items_in pages ≤ 65536 * length pages =
      at_most items_in 65536 pages (λ k d below. omega (arith, few_pointers k d below)) in
      let faults : sum_by (fault_count_for format) pages ≤ 65536 * length pages =
      at_most (fault_count_for format) 65536 pages
      (λ k d below. omega (arith, few_faults k d below)) in
      (omega arith, omega arith, omega arith, omega arith)
