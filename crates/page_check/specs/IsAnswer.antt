-- What may have been answered so far to a list of blocks: some of its first pages, and then perhaps
-- an ending.
use Rattle.std.specs.Prelude.{◌≡◌, ℕ, List, [], ◌∷◌, ◌++◌, length, map}
use Rattle.std.specs.Prelude.{slice_get, ⊤}
use Rattle.std.specs.Prelude.{Some}
use Rattle.std.specs.List.{All}
use Rattle.page_check.specs.PageBytes.{IsPage}
use Rattle.page_check.specs.declared.rules.PageRules.{PageRules}
use Rattle.page_check.specs.SynchronousAnswer.{Entry, Given, Ending, End, Invalid, PastEnd, Unread}
use Rattle.page_check.specs.SynchronousAnswer.{Reading, Known, Unknown, IsMarkedAs}
use Rattle.page_check.specs.SynchronousAnswer.{readable_pages, list_ending}

-- the answers so far: pages, then one ending as often as it was asked for
pub record Answers (P : Type 0) : Type 0 where
  pub pages : List (Given P)
  pub endings : List Ending

-- no ending yet, or one for which this holds, and then perhaps the same again
abbrev pub OneEnding : (Ending → Type 0) → List Ending → Type 0
OneEnding holds [] = ⊤
OneEnding holds (end ∷ more) = holds end × All (λ other. other ≡ end) more

-- these stand at the head of a list
abbrev pub IsPrefix : {X : Type 0} → List X → List X → Type 0
IsPrefix {X} front xs = (rest : List X) × (xs ≡ front ++ rest)

module _ {P : Type 0} where
  -- the entry behind the first k is of this block, and `may` holds of it
  pub record StopsAt (may : Entry P → Type 0) (entries : List (Entry P))
      (k block : ℕ) : Type 0 where
    pub next : Entry P
    pub here : slice_get entries k ≡ Some next
    pub named : block ≡ next.block
    pub cause : may next

  -- a page that may be given where nothing is told: one of 8192 bytes, of which its mark is true
  pub record IsGiven (rules : PageRules) (given : Given P) : Type 0 where
    pub bytes : IsPage given.page
    pub marked : IsMarkedAs rules given.entry.block given.mark given.page

  -- the first pages: those of synchronous reads; where nothing is told, such ones of the first
  -- entries
  abbrev pub AreFirst : Reading → List (Entry P) → List (Given P) → Type 0
  AreFirst (Known found) entries pages = IsPrefix pages (readable_pages found entries)
  AreFirst (Unknown rules) entries pages =
      All (IsGiven rules) pages × IsPrefix (map (λ g. g.entry) pages) entries

  -- how the list ends behind the first k pages: as synchronous reads do, behind all of theirs;
  -- where nothing is told, behind the last entry, or at the next one
  abbrev pub EndsAt : Reading → List (Entry P) → ℕ → Ending → Type 0
  EndsAt (Known found) entries k end =
      (k ≡ length (readable_pages found entries)) × (list_ending found entries ≡ end)
  EndsAt (Unknown rules) entries k End = k ≡ length entries
  EndsAt (Unknown rules) entries k (Invalid b) = StopsAt (λ _. ⊤) entries k b
  EndsAt (Unknown rules) entries k (PastEnd b) = StopsAt (λ _. ⊤) entries k b
  EndsAt (Unknown rules) entries k (Unread b) = ⊥

  -- an ending behind the first k pages: that one, or an entry that was not read
  abbrev pub IsEnding : Reading → (Entry P → Type 0) → List (Entry P) → ℕ → Ending → Type 0
  IsEnding found may entries k (Unread b) = StopsAt may entries k b
  IsEnding found may entries k End = EndsAt found entries k End
  IsEnding found may entries k (Invalid b) = EndsAt found entries k (Invalid b)
  IsEnding found may entries k (PastEnd b) = EndsAt found entries k (PastEnd b)

  pub record IsAnswer (found : Reading) (may : Entry P → Type 0) (entries : List (Entry P))
      (answers : Answers P) : Type 0 where
    pub first : AreFirst found entries answers.pages
    pub endings : OneEnding (IsEnding found may entries (length answers.pages)) answers.endings

-- one answer: a page, or an ending
pub data Next (P : Type 0) : Type 0 where
  Page : (given : Given P) → Next P
  Stop : (end : Ending) → Next P

module _ {P : Type 0} where
  -- what may be answered behind the first k pages
  abbrev pub IsNextPage : Reading → List (Entry P) → ℕ → Given P → Type 0
  IsNextPage (Known found) entries k given = slice_get (readable_pages found entries) k ≡ Some given
  IsNextPage (Unknown rules) entries k given =
      IsGiven rules given × (slice_get entries k ≡ Some given.entry)

  abbrev pub IsNext : Reading → (Entry P → Type 0) → List (Entry P) → ℕ → Next P → Type 0
  IsNext found may entries k (Page given) = IsNextPage found entries k given
  IsNext found may entries k (Stop end) = IsEnding found may entries k end

  -- this holds of what is given, where the answer is a page
  abbrev pub IfGiven : Next P → (Given P → Type 0) → Type 0
  IfGiven (Page given) holds = holds given
  IfGiven (Stop end) holds = ⊤

  -- this holds of the page, where the answer is one
  abbrev pub IfPage : Next P → (List ℕ → Type 0) → Type 0
  IfPage (Page given) holds = holds given.page
  IfPage (Stop end) holds = ⊤

  -- the answers with one more
  abbrev pub with_next : List (Given P) → Next P → Answers P
  with_next pages (Page given) = record { pages = pages ++ given ∷ []; endings = [] }
  with_next pages (Stop end) = record { pages = pages; endings = end ∷ [] }
