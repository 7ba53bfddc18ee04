-- Synchronous reads of a list, entry by entry.
use Rattle.std.proofs.Common.{◌≡◌, ◌≢◌, ℕ, ◌<◌, ◌≤◌, suc, List, [], ◌∷◌, map, take, true}
use Rattle.std.proofs.Common.{false, refl, ap, arith}
use Rattle.std.specs.Prelude.{Some, None, nat_le, slice_get}
use Rattle.std.proofs.lemmas.Bool.Decides.{nat_tests}
use Rattle.page_check.specs.declared.rules.PageRules.{PageRules}
use Rattle.page_check.specs.declared.rules.DamagedPages.{DamagedPages}
use Rattle.page_check.specs.declared.rules.PageMark.TheVariants.{Valid}
use Rattle.page_check.specs.Checksum.{IsValidAs, verdict_as}
use Rattle.page_check.specs.declared.verdict.Verdict.{Verdict}
use Rattle.page_check.specs.declared.verdict.Verdict.TheVariants.{Zero, Sane, Bad}
use Rattle.page_check.specs.Told.{Told, relation_block_count, relation_page}
use Rattle.page_check.specs.SynchronousAnswer.{Entry, Page, Absent, Reader}
use Rattle.page_check.specs.SynchronousAnswer.{found_at, found_by_verdict}
use Rattle.page_check.specs.SynchronousAnswer.{can_read}
use Rattle.page_check.specs.SynchronousAnswer.{entry_given, read_count, readable_pages, first_stop}

found_valid : (damaged : DamagedPages) (v : Verdict) (page : List ℕ) → v ≢ Bad
    → found_by_verdict damaged v page ≡ Page Valid page
found_valid damaged Bad page valid = absurd (valid refl)
found_valid damaged Zero page valid = refl
found_valid damaged Sane page valid = refl

-- a valid page of a block that the relation has is found
pub found_at-page : (rules : PageRules) (told : Told) (relation block : ℕ)
    → block < relation_block_count told relation
    → IsValidAs rules.checksums block (relation_page told relation block)
    → found_at rules told relation block ≡ Page Valid (relation_page told relation block)
unfolding found_at
found_at-page rules told relation block below valid =
    let here : nat_le (relation_block_count told relation) block ≡ false = grind (arith, nat_tests)
    in
    rw here (found_valid rules.damaged (verdict_as rules.checksums block (relation_page told relation block))
    (relation_page told relation block) valid)

-- one that is Bad gives what the rule on damaged pages says
pub found_at-damaged : (rules : PageRules) (told : Told) (relation block : ℕ)
    → block < relation_block_count told relation
    → verdict_as rules.checksums block (relation_page told relation block) ≡ Bad
    → found_at rules told relation block
    ≡ found_by_verdict rules.damaged Bad (relation_page told relation block)
unfolding found_at
found_at-damaged rules told relation block below bad =
    let here : nat_le (relation_block_count told relation) block ≡ false = grind (arith, nat_tests)
    in
    rw (here, bad) refl

pub found_at-absent : (rules : PageRules) (told : Told) (relation block : ℕ)
    → relation_block_count told relation ≤ block
    → found_at rules told relation block ≡ Absent
unfolding found_at
found_at-absent rules told relation block past =
    let here : nat_le (relation_block_count told relation) block ≡ true = grind (arith, nat_tests)
    in
    rw here refl

module _ {P : Type 0} (found : Reader) where
  pub read_count-cons : (e : Entry P) (rest : List (Entry P)) → can_read found e ≡ true
      → read_count found (e ∷ rest) ≡ suc (read_count found rest)
  unfolding read_count
  read_count-cons e rest can = rw can (omega arith)

  pub read_count-stop : (e : Entry P) (rest : List (Entry P)) → can_read found e ≡ false
      → read_count found (e ∷ rest) ≡ 0
  unfolding read_count
  read_count-stop e rest cannot = rw cannot refl

  -- an entry that gives its page
  pub readable_pages-cons : (e : Entry P) (rest : List (Entry P)) → can_read found e ≡ true
      → readable_pages found (e ∷ rest) ≡ entry_given found e ∷ readable_pages found rest
  readable_pages-cons e rest can =
      ap (λ (n : ℕ). map (entry_given found) (take n (e ∷ rest))) (read_count-cons e rest can)

  pub first_stop-cons : (e : Entry P) (rest : List (Entry P)) → can_read found e ≡ true
      → first_stop found (e ∷ rest) ≡ first_stop found rest
  first_stop-cons e rest can =
      ap (λ (n : ℕ). slice_get (e ∷ rest) n) (read_count-cons e rest can)

  -- an empty list has no pages
  pub readable_pages-none : readable_pages found (let none : List (Entry P) = [] in none) ≡ []
  unfolding read_count
  readable_pages-none = refl

  pub first_stop-none : first_stop found (let none : List (Entry P) = [] in none) ≡ None
  unfolding read_count
  first_stop-none = refl

  -- nor has one whose first entry gives none
  pub readable_pages-stop : (e : Entry P) (rest : List (Entry P)) → can_read found e ≡ false
      → readable_pages found (e ∷ rest) ≡ []
  readable_pages-stop e rest cannot =
      ap (λ (n : ℕ). map (entry_given found) (take n (e ∷ rest))) (read_count-stop e rest cannot)

  pub first_stop-stop : (e : Entry P) (rest : List (Entry P)) → can_read found e ≡ false
      → first_stop found (e ∷ rest) ≡ Some e
  first_stop-stop e rest cannot =
      ap (λ (n : ℕ). slice_get (e ∷ rest) n) (read_count-stop e rest cannot)
