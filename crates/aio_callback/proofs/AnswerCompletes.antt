-- A record that was answered from the told pages is completed by its callbacks.
use Rattle.std.proofs.Common.{◌≡◌, ◌≢◌, ℕ, ◌+◌, ◌<◌, ◌≤◌, Bool, true, false, cond, ◌==◌}
use Rattle.std.proofs.Common.{List, [], ◌∷◌, map, length, get_or, refl, sym, ap, ◌∙◌, subst, arith}
use Rattle.std.proofs.Common.{Option, Some, None}
use Rattle.std.specs.Prelude.{IfSome}
use Rattle.std.proofs.lemmas.List.{get_or-take}
use Rattle.std.proofs.lemmas.List.FromFn.{get_or-map-range_with_len}
use Rattle.page_check.specs.Told.{Told, relation_page}
use Rattle.page_check.specs.Checksum.{verdict_as, IsValidAs}
use Rattle.page_check.specs.declared.rules.PageMark.{PageMark}
use Rattle.page_check.specs.declared.rules.PageMark.TheVariants.{Valid, Zeroed, Damaged}
use Rattle.page_check.specs.declared.verdict.Verdict.{Verdict}
use Rattle.page_check.specs.declared.verdict.Verdict.TheVariants.{Zero, Sane, Bad}
use Rattle.aio_disk.specs.Disk.{ReadsPages}
use Rattle.aio_word.specs.declared.Class.TheVariants.{Unended, Whole, Short}
use Rattle.read_callbacks.specs.declared.chain.Raw.{Raw}
use Rattle.read_callbacks.specs.declared.chain.Raw.TheVariants.{Read, Failed}
use Rattle.read_callbacks.specs.Chain.{is_bad, is_bad_verdict, class_of, chain_start, chain_result}
use Rattle.read_callbacks.specs.Chain.{good_count, Outcome}
use Rattle.read_callbacks.specs.GoodPages.{IsContents, HasBadPage, IsGivenAs}
use Rattle.aio_callback.specs.ReadIoView.{ReadIoView, IsToldRead, HasAnswer, IsCompletedRead}
use Rattle.aio_callback.specs.ReadIoView.{ReadFits, after_shared, IsAfterShared, record_aim}
use Rattle.aio_callback.specs.ReadIoView.{number_of_id}
use Rattle.read_callbacks.proofs.ChainLowersResult.{good_below}
use Rattle.read_callbacks.proofs.ChainChangesPages.{PageMatchesMark, match_at, matching_pages, begun_holds}
use Rattle.read_callbacks.proofs.CheckedPages.{good_clean}

not_bad : (v : Verdict) → is_bad_verdict v ≡ false → v ≢ Bad
not_bad Zero e b = absurd (cc)
not_bad Sane e b = absurd (cc)
not_bad Bad e b = absurd (cc)

is_bad-verdict : (v : Verdict) → is_bad_verdict v ≡ true → v ≡ Bad
is_bad-verdict Bad is = refl
is_bad-verdict Zero is = absurd (cc)
is_bad-verdict Sane is = absurd (cc)

-- where the page of a block is bad, the block has a bad page
pub contents_bad : (sums : Bool) (told : Option Told) (relation block : ℕ) (page : List ℕ)
    → is_bad sums block page ≡ true → IsContents told relation block page
    → HasBadPage told sums relation block
contents_bad sums None relation block page bad h = h
contents_bad sums (Some t) relation block page bad h =
    (h.0, ap (verdict_as sums block) h.1 ∙ is_bad-verdict (verdict_as sums block page) bad)

-- a page among those that were read is that of its block
pub told_at : (told : Option Told) (relation first n i : ℕ) (pages : List (List ℕ)) → i < n
    → IfSome told (λ t. ReadsPages t relation first n pages)
    → IsContents told relation (first + i) (get_or pages i [])
told_at None relation first n i pages lt h = h
told_at (Some t) relation first n i pages lt h = (
  let w = h.within in omega arith,
  sym (sym (get_or-take n pages i [] lt)
      ∙ (ap (λ (ps : List (List ℕ)). get_or ps i []) h.told_pages
      ∙ get_or-map-range_with_len (relation_page t relation) first n i (first + i) [] lt refl)),
)

-- what a page that is held in place of a told one is given as
given_as : (sums : Bool) (told : Option Told) (relation block : ℕ) (mark : PageMark)
    (read page : List ℕ) → IsContents told relation block read
    → (mark ≡ Valid → IsValidAs sums block page) → PageMatchesMark sums block mark read page
    → IsGivenAs told sums relation block page mark
given_as sums told relation block Valid read page there valid held = record {
  valid = valid refl;
  contents = subst (IsContents told relation block) (sym held) there;
}
given_as sums told relation block Zeroed read page there valid held =
    record { zeros = held.0; told_bad = contents_bad sums told relation block read held.1 there }
given_as sums told relation block Damaged read page there valid held = record {
  bad = ap (verdict_as sums block) held.0 ∙ is_bad-verdict (verdict_as sums block read) held.1;
  contents = subst (IsContents told relation block) (sym held.0) there;
}

-- what the callbacks make of this answer and these pages
abbrev run : ReadIoView → Raw → List (List ℕ) → Outcome
run r answer pages = chain_result r.checksums r.first r.count r.ids (chain_start answer pages)

goods : (told : Option Told) (r : ReadIoView) (answer : Raw) (pages : List (List ℕ))
    → IsToldRead told r answer pages → r.count ≤ length pages
    → (i : ℕ) → i < good_count r.ids (run r answer pages).result
    → IsGivenAs told r.checksums r.relation (r.first + i) (get_or (run r answer pages).pages i [])
    (get_or (run r answer pages).marks i Valid)
goods told r Failed pages h room i lt =
    let b = good_below r.checksums r.first r.count r.ids (chain_start Failed pages) in absurd (omega arith)
goods told r (Read n) pages h room i lt =
    let b = good_below r.checksums r.first r.count r.ids (chain_start (Read n) pages) in
    let w = h.0 in
    let o = run r (Read n) pages in
    let valid : get_or o.marks i Valid ≡ Valid
    → IsValidAs r.checksums (r.first + i) (get_or o.pages i []) =
    λ e. not_bad (verdict_as r.checksums (r.first + i) (get_or o.pages i []))
    (good_clean r.checksums r.first r.count r.ids (Read n) pages (omega arith) i lt e) in
    given_as r.checksums told r.relation (r.first + i) (get_or o.marks i Valid)
    (get_or pages i []) (get_or o.pages i [])
    (told_at told r.relation r.first n i pages (omega arith) h.1) valid
    (match_at r.checksums r.first o.marks pages o.pages i (r.first + i) (omega arith) refl
    (begun_holds r.checksums r.first r.count r.ids (Read n) pages))

few : (told : Option Told) (r : ReadIoView) (answer : Raw) (pages : List (List ℕ))
    → IsToldRead told r answer pages → good_count r.ids (run r answer pages).result ≤ r.count
few told r (Read n) pages h =
    let b = good_below r.checksums r.first r.count r.ids (chain_start (Read n) pages) in
    let w = h.0 in omega arith
few told r Failed pages h =
    let b = good_below r.checksums r.first r.count r.ids (chain_start Failed pages) in omega arith

still : (told : Option Told) (r : ReadIoView) (answer other : Raw) (pages : List (List ℕ))
    → IsToldRead told r answer pages → IsToldRead told (after_shared r other) answer pages
still told r (Read n) other pages h = h
still told r Failed other pages h = tt

completes : (told : Option Told) (r : ReadIoView) (answer : Raw) → IsToldRead told r answer r.pages
    → r.count ≤ length r.pages → IsCompletedRead told (after_shared r answer)
completes told r answer h room = record {
  answer = answer;
  read = r.pages;
  told_read = still told r answer answer r.pages h;
  class = refl;
  outcome = refl;
  few = few told r answer r.pages h;
  good = goods told r answer r.pages h room;
}

shared_by_answer : (r s : ReadIoView) (o : Option Raw) (answer : Raw) → o ≡ Some answer
    → IfSome o (IsAfterShared s r) → s ≡ after_shared r answer
shared_by_answer r s o answer is h = subst (λ (z : Option Raw). IfSome z (IsAfterShared s r)) is h

pub completed_after : (told : Option Told) (r s : ReadIoView) → HasAnswer told r
    → IfSome r.raw (IsAfterShared s r) → r.count ≤ length r.pages → IsCompletedRead told s
completed_after told r s a h room =
    subst (λ (z : ReadIoView). IsCompletedRead told z)
    (sym (shared_by_answer r s r.raw a.answer a.is h))
    (completes told r a.answer a.told_read room)

-- a class that ended is none of those that did not
whole_or_short : (b : Bool) → cond b Whole Short ≢ Unended
whole_or_short true e = absurd (cc)
whole_or_short false e = absurd (cc)

ended_class : (count : ℕ) (answer : Raw) → class_of count answer ≢ Unended
ended_class count Failed e = absurd (cc)
ended_class count (Read n) e = whole_or_short (n == count) e

pub ended_after : (told : Option Told) (s : ReadIoView) → IsCompletedRead told s
    → s.label.ended ≢ Unended
ended_after told s c e = ended_class s.count c.answer (sym c.class ∙ e)

fits_by : (told : Option Told) (relations : ℕ) (r : ReadIoView) (answer : Raw) → r.aimed ≡ true
    → 0 < r.count → r.relation < relations → IsCompletedRead told (after_shared r answer)
    → ReadFits told relations (after_shared r answer)
fits_by told relations r answer a some w c = record {
  aimed = a;
  some = some;
  within = w;
  fresh = λ e. absurd (ended_after told (after_shared r answer) c e);
  ended = λ _. c;
}

pub fits_after : (told : Option Told) (relations : ℕ) (r s : ReadIoView) → HasAnswer told r
    → IfSome r.raw (IsAfterShared s r) → r.count ≤ length r.pages → r.aimed ≡ true
    → 0 < r.count → r.relation < relations → ReadFits told relations s
fits_after told relations r s a h room aimed some w =
    subst (λ (z : ReadIoView). ReadFits told relations z)
    (sym (shared_by_answer r s r.raw a.answer a.is h))
    (fits_by told relations r a.answer aimed some w (completes told r a.answer a.told_read room))

pub aim_after : (told : Option Told) (r s : ReadIoView) → HasAnswer told r
    → IfSome r.raw (IsAfterShared s r) → record_aim s ≡ record_aim r
aim_after told r s a h =
    let o = run r a.answer r.pages in
    ap record_aim (shared_by_answer r s r.raw a.answer a.is h)
    ∙ ap (λ (n : ℕ). n ∷ r.relation ∷ r.first ∷ r.count ∷ cond r.checksums 1 0
    ∷ map number_of_id r.ids)
    (matching_pages r.checksums r.first o.marks r.pages o.pages
    (begun_holds r.checksums r.first r.count r.ids a.answer r.pages)).0
