-- What may be answered next, by what is found at that place of the list.
use Rattle.std.proofs.Common.{◌≡◌, ℕ, ◌+◌, ◌≤◌, true, false, List, length, refl, sym, ap, ◌∙◌}
use Rattle.std.proofs.Common.{arith}
use Rattle.std.specs.Prelude.{Option, Some, slice_get}
use Rattle.std.proofs.lemmas.Option.{slice_get_past}
use Rattle.page_check.specs.SynchronousAnswer.{Reading, Known, Unknown, IfKnown, IfUnknown}
use Rattle.page_check.specs.PageBytes.{IsPage}
use Rattle.page_check.specs.SynchronousAnswer.{Entry, Given, End, Invalid, PastEnd, Unread}
use Rattle.page_check.specs.SynchronousAnswer.{Found, BadPage, Absent, IsMarkedAs, found_mark}
use Rattle.page_check.specs.SynchronousAnswer.{Reader, entry_found, is_page, found_page}
use Rattle.page_check.specs.SynchronousAnswer.{found_given, can_read, readable_pages}
use Rattle.page_check.specs.SynchronousAnswer.{read_count, found_ending, stop_ending, list_ending}
use Rattle.page_check.specs.IsAnswer.{Page, Stop, IsNext}
use Rattle.page_check.proofs.ListPlaces.{count-within, count-more, count-stop}
use Rattle.page_check.proofs.ListPlaces.{readable_pages-length}
use Rattle.page_check.proofs.ListPlaces.{readable_pages-at}

-- the first k entries can be read, where the contents are told
abbrev pub IsReached : {P : Type 0} → Reading → List (Entry P) → ℕ → Type 0
IsReached found es k = IfKnown found (λ f. k ≤ read_count f es)

module _ {P : Type 0} (may : Entry P → Type 0) (es : List (Entry P)) (k : ℕ) (e : Entry P)
    (here : slice_get es k ≡ Some e) where
  -- the page of the entry, where it has a page's bytes; and then the next one is reached
  pub next-page : (found : Reading) (shown : Found) → IsReached found es k
      → is_page shown ≡ true
      → IfUnknown found (λ rules. IsMarkedAs rules e.block (found_mark shown) (found_page shown))
      → IfKnown found (λ f. entry_found f e ≡ shown)
      → (IsPage (found_page shown) → IsNext found may es k (Page (found_given shown e)))
      × IsReached found es (k + 1)
  next-page (Unknown rules) shown far page marked is = (
    λ bytes. (record { bytes = bytes; marked = marked }, here),
    tt,
  )
  next-page (Known f) shown far page marked is =
      let below = count-more f es k e here far (ap is_page is ∙ page) in
      let given = ap {B = Option (Given P)} (λ (r : Found). Some (found_given r e)) is in
      (λ _. readable_pages-at f es k e here below ∙ given, omega (arith, below))

  stops_at : (f : Reader) → k ≤ read_count f es → can_read f e ≡ false
      → (k ≡ length (readable_pages f es))
      × (list_ending f es ≡ found_ending (entry_found f e) e.block)
  stops_at f far cannot =
      let count = count-stop f es k e here far cannot in
      let stop = ap (slice_get es) count ∙ here in
      (sym (readable_pages-length f es ∙ count), ap (stop_ending f) stop)

  ends_at : (f : Reader) (r : Found) → k ≤ read_count f es → entry_found f e ≡ r
      → is_page r ≡ false
      → (k ≡ length (readable_pages f es)) × (list_ending f es ≡ found_ending r e.block)
  ends_at f r far is none =
      let stops = stops_at f far (ap is_page is ∙ none) in
      (stops.0, stops.1 ∙ ap (λ (x : Found). found_ending x e.block) is)

  -- that its page is not valid
  pub next-invalid : (found : Reading) → IsReached found es k
      → IfKnown found (λ f. entry_found f e ≡ BadPage)
      → IsNext found may es k (Stop (Invalid e.block))
  next-invalid (Unknown rules) far is = record { next = e; here = here; named = refl; cause = tt }
  next-invalid (Known f) far is = ends_at f BadPage far is refl

  -- that there is no such block
  pub next-past-end : (found : Reading) → IsReached found es k
      → IfKnown found (λ f. entry_found f e ≡ Absent)
      → IsNext found may es k (Stop (PastEnd e.block))
  next-past-end (Unknown rules) far is = record { next = e; here = here; named = refl; cause = tt }
  next-past-end (Known f) far is = ends_at f Absent far is refl

  -- that it was not read
  pub next-unread : (found : Reading) → may e → IsNext found may es k (Stop (Unread e.block))
  next-unread (Unknown rules) cause = record { next = e; here = here; named = refl; cause = cause }
  next-unread (Known f) cause = record { next = e; here = here; named = refl; cause = cause }

-- the end, behind the last entry
pub next-end : {P : Type 0} (may : Entry P → Type 0) (es : List (Entry P)) (k : ℕ)
    (found : Reading) → IsReached found es k → k ≡ length es
    → IsNext found may es k (Stop End)
next-end may es k (Unknown rules) far all = all
next-end {P} may es k (Known f) far all =
    let within = count-within f es in
    let count : read_count f es ≡ length es = omega arith in
    let none = slice_get_past es (read_count f es) (omega arith) in
    (omega (arith, readable_pages-length f es), ap (stop_ending f) none)
