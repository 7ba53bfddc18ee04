-- The pages that a stream answers: what their marks say of them, and of which entry each is.
use Rattle.std.proofs.Common.{◌≡◌, ℕ, zero, suc, ◌<◌, Bool, true, false, List, [], get_or}
use Rattle.std.proofs.Common.{◌∷◌, ◌++◌, length, refl, sym, ap, ◌∙◌, subst, arith}
use Rattle.std.specs.Prelude.{Option, Some, None, slice_get, if◌then◌else◌, nat_le, ⊤}
use Rattle.std.specs.List.{All}
use Rattle.std.proofs.lemmas.Option.{slice_get_within}
use Rattle.page_check.specs.Checksum.{verdict_as}
use Rattle.page_check.specs.Told.{Told, relation_block_count, relation_page}
use Rattle.page_check.specs.Verdict.{IsValid}
use Rattle.page_check.specs.declared.rules.DamagedPages.{DamagedPages}
use Rattle.page_check.specs.declared.rules.DamagedPages.TheVariants as damaged_pages
use Rattle.page_check.specs.declared.rules.DamagedPages.TheVariants.{Refuse, Give}
use Rattle.page_check.specs.declared.rules.PageMark.{PageMark}
use Rattle.page_check.specs.declared.rules.PageMark.TheVariants.{Valid, Zeroed, Damaged}
use Rattle.page_check.specs.declared.rules.PageRules.{PageRules}
use Rattle.page_check.specs.declared.verdict.Verdict.{Verdict}
use Rattle.page_check.specs.declared.verdict.Verdict.TheVariants.{Zero, Sane, Bad}
use Rattle.page_check.specs.SynchronousAnswer.{Reading, Known, Unknown, Reader, reading_of}
use Rattle.page_check.specs.SynchronousAnswer.{Entry, Given, Absent, IsMarkedAs, AllowsMark}
use Rattle.page_check.specs.SynchronousAnswer.{IsValidUnlessDamaged, found_at, found_by_verdict}
use Rattle.page_check.specs.SynchronousAnswer.{is_page, found_mark, found_page, can_read}
use Rattle.page_check.specs.SynchronousAnswer.{entry_given, readable_pages}
use Rattle.page_check.specs.IsAnswer.{Next as Said, Page, Stop, IsAnswer, IsNext, AreFirst}
use Rattle.page_check.specs.IsAnswer.{IfGiven}
use Rattle.page_check.proofs.SynchronousReads.{readable_pages-cons, readable_pages-none}
use Rattle.page_check.proofs.SynchronousReads.{readable_pages-stop}
use Rattle.page_check.proofs.ValidPages.{zero_page_valid}
use Rattle.page_check.proofs.VerifiedPages.{valid_as-valid}
use Rattle.page_check.proofs.ListPlaces.{count-within, readable_pages-length}

front_get : {X : Type 0} (front rest : List X) (k : ℕ) (d : X) → k < length front
    → slice_get (front ++ rest) k ≡ Some (get_or front k d)
front_get [] rest k d below = absurd (omega arith)
front_get (x ∷ front) rest zero d below = refl
front_get (x ∷ front) rest (suc k) d below = front_get front rest k d (omega arith)

nothing_there : {X : Type 0} (x : X) (k : ℕ) → slice_get (let none : List X = [] in none) k ≡ Some x
    → ⊥
nothing_there x k is = cc

-- the page of a synchronous read has a mark that is true of it
found-marked : (rules : PageRules) (block : ℕ) (absent : Bool) (damaged : DamagedPages) (v : Verdict)
    (page : List ℕ) → rules.damaged ≡ damaged → verdict_as rules.checksums block page ≡ v
    → is_page (if absent then Absent else found_by_verdict damaged v page) ≡ true
    → IsMarkedAs rules block
    (found_mark (if absent then Absent else found_by_verdict damaged v page))
    (found_page (if absent then Absent else found_by_verdict damaged v page))
found-marked rules block true damaged v page rule e is = absurd (cc)
found-marked rules block false damaged Zero page rule e is = λ bad. absurd (cc)
found-marked rules block false damaged Sane page rule e is = λ bad. absurd (cc)
found-marked rules block false Refuse Bad page rule e is = absurd (cc)
found-marked rules block false damaged_pages.Zero Bad page rule e is = (rule, refl)
found-marked rules block false Give Bad page rule e is = (rule, e)

found_at-marked : (rules : PageRules) (told : Told) (relation block : ℕ)
    → is_page (found_at rules told relation block) ≡ true
    → IsMarkedAs rules block (found_mark (found_at rules told relation block))
    (found_page (found_at rules told relation block))
unfolding found_at
found_at-marked rules told relation block is =
    found-marked rules block (nat_le (relation_block_count told relation) block) rules.damaged
    (verdict_as rules.checksums block (relation_page told relation block))
    (relation_page told relation block) refl refl is

valid_unless_damaged : (rules : PageRules) (block : ℕ) (mark : PageMark) (page : List ℕ)
    → IsMarkedAs rules block mark page → IsValidUnlessDamaged mark page
valid_unless_damaged rules block Valid page is = valid_as-valid rules.checksums block page is
valid_unless_damaged rules block Zeroed page is = subst IsValid (sym is.1) zero_page_valid
valid_unless_damaged rules block Damaged page is = tt

allowed_mark : (rules : PageRules) (block : ℕ) (mark : PageMark) (page : List ℕ)
    → IsMarkedAs rules block mark page → AllowsMark rules.damaged mark
allowed_mark rules block Valid page is = tt
allowed_mark rules block Zeroed page is = is.0
allowed_mark rules block Damaged page is = is.0

-- what the mark says of the page is true
abbrev IsMarked : {P : Type 0} → PageRules → Given P → Type 0
IsMarked rules g = IsMarkedAs rules g.entry.block g.mark g.page

module _ (rules : PageRules) (told : Told) where
  abbrev shown : Reader
  shown = found_at rules told

  module _ {P : Type 0} where
    abbrev AreMarked : List (Entry P) → Type 0
    AreMarked es = (k : ℕ) (g : Given P) → slice_get (readable_pages shown es) k ≡ Some g
        → IsMarked rules g

    marked_first : (e : Entry P) (es : List (Entry P)) (b : Bool) → can_read shown e ≡ b
        → AreMarked es → AreMarked (e ∷ es)
    marked_first e es false cannot rest k g is =
        absurd (nothing_there g k
        (ap (λ (l : List (Given P)). slice_get l k) (sym (readable_pages-stop shown e es cannot))
        ∙ is))
    marked_first e es true can rest zero g is =
        let here : slice_get (entry_given shown e ∷ readable_pages shown es) 0 ≡ Some g =
        ap (λ (l : List (Given P)). slice_get l 0) (sym (readable_pages-cons shown e es can)) ∙ is
        in
        let same : entry_given shown e ≡ g = cc in
        subst (λ (h : Given P). IsMarked rules h) same
        (found_at-marked rules told e.relation e.block can)
    marked_first e es true can rest (suc k) g is =
        rest k g (ap (λ (l : List (Given P)). slice_get l (suc k))
        (sym (readable_pages-cons shown e es can)) ∙ is)

    pages_marked : (es : List (Entry P)) → AreMarked es
    pages_marked [] = λ k g is. absurd (nothing_there g k
        (ap (λ (l : List (Given P)). slice_get l k) (sym (readable_pages-none shown)) ∙ is))
    pages_marked (e ∷ es) = marked_first e es (can_read shown e) refl (pages_marked es)

module _ {P : Type 0} where
  module _ (rules : PageRules) where
    next_marked : (told : Option Told) (may : Entry P → Type 0) (entries : List (Entry P)) (k : ℕ)
        (g : Given P) → IsNext (reading_of rules told) may entries k (Page g) → IsMarked rules g
    next_marked None may entries k g is = is.0.marked
    next_marked (Some t) may entries k g is = pages_marked rules t entries k g is

    -- a page that is answered next is valid, or marked as damaged
    pub next_valid : (told : Option Told) (may : Entry P → Type 0) (entries : List (Entry P)) (k : ℕ)
        (next : Said P) → IsNext (reading_of rules told) may entries k next
        → IfGiven next (λ g. IsValidUnlessDamaged g.mark g.page)
    next_valid told may entries k (Stop end) is = tt
    next_valid told may entries k (Page g) is =
        valid_unless_damaged rules g.entry.block g.mark g.page
        (next_marked told may entries k g is)

    -- and has a mark that the rules allow
    pub next_allowed : (told : Option Told) (may : Entry P → Type 0) (entries : List (Entry P))
        (k : ℕ) (next : Said P) → IsNext (reading_of rules told) may entries k next
        → IfGiven next (λ g. AllowsMark rules.damaged g.mark)
    next_allowed told may entries k (Stop end) is = tt
    next_allowed told may entries k (Page g) is =
        allowed_mark rules g.entry.block g.mark g.page (next_marked told may entries k g is)

  -- and is that of an entry
  within_pages : (f : Reader) (entries : List (Entry P)) (k : ℕ) (g : Given P)
      → slice_get (readable_pages f entries) k ≡ Some g → k < length entries
  within_pages f entries k g is =
      let below = slice_get_within (readable_pages f entries) k g is in
      omega (arith, readable_pages-length f entries, count-within f entries)

  pub page_within : (found : Reading) (may : Entry P → Type 0) (entries : List (Entry P))
      (k : ℕ) (g : Given P) → IsNext found may entries k (Page g) → k < length entries
  page_within (Unknown rules) may entries k g is = slice_get_within entries k g.entry is.1
  page_within (Known f) may entries k g is = within_pages f entries k g is

  -- whatever may be unread
  pub page_anyway : (found : Reading) (may : Entry P → Type 0) (entries : List (Entry P)) (k : ℕ) (g : Given P)
      → IsNext found may entries k (Page g) → IsNext found (λ _. ⊤) entries k (Page g)
  page_anyway (Unknown rules) may entries k g is = is
  page_anyway (Known f) may entries k g is = is

  pub pages_anyway : (found : Reading) (may : Entry P → Type 0) (entries : List (Entry P)) (pages : List (Given P))
      → IsAnswer found (λ _. ⊤) entries (record { pages = pages; endings = [] })
      → IsAnswer found may entries (record { pages = pages; endings = [] })
  pages_anyway found may entries pages a = record { first = a.first; endings = tt }

  first_marked : (rules : PageRules) (told : Option Told) (entries : List (Entry P))
      (pages : List (Given P)) → AreFirst (reading_of rules told) entries pages
      → All (IsMarked rules) pages
  first_marked rules None entries pages first = λ k d below. (first.0 k d below).marked
  first_marked rules (Some t) entries pages first =
      λ k d below.
      (let among = front_get pages first.0 k d below in
      pages_marked rules t entries k (get_or pages k d)
      (ap (λ (l : List (Given P)). slice_get l k) first.1 ∙ among))

  -- pages that are answers are valid, or marked as damaged
  pub first_valid : (rules : PageRules) (told : Option Told) (entries : List (Entry P))
      (pages : List (Given P)) → AreFirst (reading_of rules told) entries pages
      → All (λ g. IsValidUnlessDamaged g.mark g.page) pages
  first_valid rules told entries pages first = λ k d below.
      (let g = get_or pages k d in
      valid_unless_damaged rules g.entry.block g.mark g.page
      (first_marked rules told entries pages first k d below))

  -- and have marks that the rules allow
  pub first_allowed : (rules : PageRules) (told : Option Told) (entries : List (Entry P))
      (pages : List (Given P)) → AreFirst (reading_of rules told) entries pages
      → All (λ g. AllowsMark rules.damaged g.mark) pages
  first_allowed rules told entries pages first = λ k d below.
      (let g = get_or pages k d in
      allowed_mark rules g.entry.block g.mark g.page
      (first_marked rules told entries pages first k d below))
