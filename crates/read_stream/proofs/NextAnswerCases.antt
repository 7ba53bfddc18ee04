-- What may be answered next, by what is known of the block at that place.
use Rattle.std.proofs.Common.{◌≡◌, ℕ, ◌+◌, ◌≤◌, List, length, refl, sym, subst, ap, ◌∙◌}
use Rattle.std.specs.Prelude.{Option, Some, None, IfSome, slice_get}
use Rattle.page_check.specs.PageBytes.{IsPage}
use Rattle.page_check.specs.Told.{Told, relation_block_count, relation_page}
use Rattle.page_check.specs.Checksum.{verdict_as, IsValidAs}
use Rattle.page_check.specs.declared.rules.DamagedPages.{DamagedPages}
use Rattle.page_check.specs.declared.rules.DamagedPages.TheVariants as damaged_pages
use Rattle.page_check.specs.declared.rules.PageMark.{PageMark}
use Rattle.page_check.specs.declared.rules.PageMark.TheVariants.{Valid, Zeroed, Damaged}
use Rattle.page_check.specs.declared.rules.PageRules.{PageRules}
use Rattle.page_check.specs.declared.verdict.Verdict.TheVariants.{Bad}
use Rattle.page_check.specs.SynchronousAnswer.{Entry, End, Invalid, PastEnd, Unread, AllowsMark}
use Rattle.page_check.specs.SynchronousAnswer.{Page as FoundPage, IfKnown, IsMarkedAs, found_at}
use Rattle.page_check.specs.SynchronousAnswer.{found_by_verdict, reading_of, read_count}
use Rattle.page_check.specs.IsAnswer.{Page, Stop, IsNext}
use Rattle.page_check.proofs.NextAnswer as found
use Rattle.page_check.proofs.SynchronousReads.{found_at-page, found_at-damaged, found_at-absent}
use Rattle.read_callbacks.specs.GoodPages.{IsGivenAs, HasBadPage}

-- the first k entries can be read
abbrev pub ReadableUpTo : {P : Type 0} → PageRules → Option Told → ℕ → List (Entry P) → Type 0
ReadableUpTo rules told k es = IfKnown (reading_of rules told) (λ f. k ≤ read_count f es)

module _ (rules : PageRules) (relation block : ℕ) where
  -- a page that its owner gives has a mark that is true of it
  is-marked : (mark : PageMark) (page : List ℕ) → AllowsMark rules.damaged mark
      → IsGivenAs None rules.checksums relation block page mark → IsMarkedAs rules block mark page
  is-marked Valid page allowed given = given.valid
  is-marked Zeroed page allowed given = (allowed, given.zeros)
  is-marked Damaged page allowed given = (allowed, given.bad)

  module _ (t : Told) where
    abbrev contents : List ℕ
    contents = relation_page t relation block

    -- a bad one gives what this rule says
    bad-found : (damaged : DamagedPages) → rules.damaged ≡ damaged
        → HasBadPage (Some t) rules.checksums relation block
        → found_at rules t relation block ≡ found_by_verdict damaged Bad contents
    bad-found damaged rule (below, bad) =
        found_at-damaged rules t relation block below bad
        ∙ ap (λ (d : DamagedPages). found_by_verdict d Bad contents) rule

    -- such a page is found
    is-found : (mark : PageMark) (page : List ℕ) → AllowsMark rules.damaged mark
        → IsGivenAs (Some t) rules.checksums relation block page mark
        → found_at rules t relation block ≡ FoundPage mark page
    is-found Valid page allowed given =
        let (below, same) = given.contents in
        found_at-page rules t relation block below
        (subst (λ (z : List ℕ). IsValidAs rules.checksums block z) (sym same) given.valid)
        ∙ ap (λ (z : List ℕ). FoundPage Valid z) same
    is-found Zeroed page allowed given =
        bad-found damaged_pages.Zero allowed given.told_bad
        ∙ ap (λ (z : List ℕ). FoundPage Zeroed z) (sym given.zeros)
    is-found Damaged page allowed given =
        let (below, same) = given.contents in
        bad-found damaged_pages.Give allowed
        (below, subst (λ (z : List ℕ). verdict_as rules.checksums block z ≡ Bad) (sym same) given.bad)
        ∙ ap (λ (z : List ℕ). FoundPage Damaged z) same

module _ {P : Type 0} (rules : PageRules) (may : Entry P → Type 0) (es : List (Entry P)) (k : ℕ)
    (e : Entry P) (at : slice_get es k ≡ Some e) where
  -- a page, with a mark that the rule on damaged pages allows
  pub next-page : (told : Option Told) (page : List ℕ) (mark : PageMark)
      → ReadableUpTo rules told k es → AllowsMark rules.damaged mark
      → IsGivenAs told rules.checksums e.relation e.block page mark
      → (IsPage page → IsNext (reading_of rules told) may es k
      (Page (record { entry = e; page = page; mark = mark })))
      × ReadableUpTo rules told (k + 1) es
  next-page None page mark far allowed given =
      found.next-page may es k e at (reading_of rules None) (FoundPage mark page) far refl
      (is-marked rules e.relation e.block mark page allowed given) tt
  next-page (Some t) page mark far allowed given =
      found.next-page may es k e at (reading_of rules (Some t)) (FoundPage mark page) far refl tt
      (is-found rules e.relation e.block t mark page allowed given)

  pub next-invalid : (told : Option Told) → ReadableUpTo rules told k es
      → rules.damaged ≡ damaged_pages.Refuse
      → HasBadPage told rules.checksums e.relation e.block
      → IsNext (reading_of rules told) may es k (Stop (Invalid e.block))
  next-invalid None far rule bad =
      found.next-invalid may es k e at (reading_of rules None) far tt
  next-invalid (Some t) far rule bad =
      found.next-invalid may es k e at (reading_of rules (Some t)) far
      (bad-found rules e.relation e.block t damaged_pages.Refuse rule bad)

  pub next-past-end : (told : Option Told) → ReadableUpTo rules told k es
      → IfSome told (λ t. relation_block_count t e.relation ≤ e.block)
      → IsNext (reading_of rules told) may es k (Stop (PastEnd e.block))
  next-past-end None far past =
      found.next-past-end may es k e at (reading_of rules None) far tt
  next-past-end (Some t) far past =
      found.next-past-end may es k e at (reading_of rules (Some t)) far
      (found_at-absent rules t e.relation e.block past)

  pub next-unread : (told : Option Told) → may e
      → IsNext (reading_of rules told) may es k (Stop (Unread e.block))
  next-unread told cause = found.next-unread may es k e at (reading_of rules told) cause

pub next-end : {P : Type 0} (rules : PageRules) (may : Entry P → Type 0) (es : List (Entry P)) (k : ℕ)
    (told : Option Told) → ReadableUpTo rules told k es → k ≡ length es
    → IsNext (reading_of rules told) may es k (Stop End)
next-end rules may es k told far all = found.next-end may es k (reading_of rules told) far all
