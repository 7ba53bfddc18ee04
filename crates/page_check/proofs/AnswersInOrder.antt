-- Answers to a list that come one after the other, and answers to lists that are joined.
use Rattle.std.proofs.Common.{◌≡◌, ℕ, ◌+◌, List, [], ◌∷◌, ◌++◌, length, map, refl, sym, ap}
use Rattle.std.proofs.Common.{◌∙◌, arith, append_assoc, suc, zero}
use Rattle.std.specs.Prelude.{Some, slice_get}
use Rattle.std.specs.List.{All}
use Rattle.std.proofs.lemmas.List.{length-map, map-append}
use Rattle.std.proofs.lemmas.List.Elements.{All-append}
use Rattle.page_check.specs.declared.rules.PageRules.{PageRules}
use Rattle.page_check.specs.SynchronousAnswer.{Reading, Known, Unknown}
use Rattle.page_check.specs.SynchronousAnswer.{Entry, Given, Ending}
use Rattle.page_check.specs.SynchronousAnswer.{readable_pages}
use Rattle.page_check.specs.IsAnswer.{IsPrefix, AreFirst, IsGiven, IsAnswer}
use Rattle.page_check.specs.IsAnswer.{Next, Page, Stop, IsNextPage, IsNext, with_next}

-- the element behind the first ones
pub at_seam : {X : Type 0} (xs ys : List X) (x : X) → slice_get (xs ++ ys) (length xs) ≡ Some x
    → (rest : List X) × (ys ≡ x ∷ rest)
at_seam [] [] x is = absurd (cc)
at_seam [] (y ∷ ys) x is = (ys, cc)
at_seam (z ∷ xs) ys x is = at_seam xs ys x is

begins_next : {X : Type 0} (front xs : List X) (x : X) → IsPrefix front xs
    → slice_get xs (length front) ≡ Some x → IsPrefix (front ++ x ∷ []) xs
begins_next {X} front xs x begins is =
    let here : slice_get (front ++ begins.0) (length front) ≡ Some x =
    ap (λ (l : List X). slice_get l (length front)) (sym begins.1) ∙ is in
    let seam = at_seam front begins.0 x here in (
      seam.0,
      begins.1 ∙ ap (λ (l : List X). front ++ l) seam.1 ∙ sym (append_assoc front (x ∷ []) seam.0),
    )

pub begins_more : {X : Type 0} (front xs ys : List X) → IsPrefix front xs
    → IsPrefix front (xs ++ ys)
begins_more {X} front xs ys begins =
    (begins.0 ++ ys, ap (λ (l : List X). l ++ ys) begins.1 ∙ append_assoc front begins.0 ys)

pub begins_all : {X : Type 0} (front xs : List X) → IsPrefix front xs → length front ≡ length xs
    → xs ≡ front
begins_all [] [] begins same = refl
begins_all [] (x ∷ xs) begins same = absurd (omega (arith, same))
begins_all (y ∷ front) [] begins same = absurd (omega (arith, same))
begins_all {X} (y ∷ front) (x ∷ xs) begins same =
    let first : x ≡ y = cc in
    let others : xs ≡ front ++ begins.0 = cc in
    let rest = begins_all front xs (begins.0, others) (omega (arith, same)) in
    rw (first, rest) refl

pub slice_get_front : {X : Type 0} (xs ys : List X) (k : ℕ) (x : X) → slice_get xs k ≡ Some x
    → slice_get (xs ++ ys) k ≡ Some x
slice_get_front [] ys k x is = absurd (cc)
slice_get_front (y ∷ xs) ys zero x is = is
slice_get_front (y ∷ xs) ys (suc k) x is = slice_get_front xs ys k x is

pub slice_get_back : {X : Type 0} (xs ys : List X) (k : ℕ)
    → slice_get (xs ++ ys) (length xs + k) ≡ slice_get ys k
slice_get_back [] ys k =
    let e : 0 + k ≡ k = omega arith in ap (slice_get ys) e
slice_get_back {X} (x ∷ xs) ys k =
    let e : length (x ∷ xs) + k ≡ suc (length xs + k) = omega arith in
    ap (slice_get (x ∷ (xs ++ ys))) e ∙ slice_get_back xs ys k

pub no_others : (end : Ending) → All (λ (other : Ending). other ≡ end) []
no_others end = λ k d below. absurd (omega arith)

module _ {P : Type 0} where
  pub first_none : (found : Reading) (entries : List (Entry P)) → AreFirst found entries []
  first_none (Unknown rules) entries = (λ k d below. absurd (omega arith), (entries, refl))
  first_none (Known f) entries = (readable_pages f entries, refl)

  one_given : (rules : PageRules) (given : Given P) → IsGiven rules given
      → All (IsGiven rules) (given ∷ [])
  one_given rules given is = λ k d below. (let first : k ≡ 0 = omega arith in rw first is)

  first_next : (found : Reading) (entries : List (Entry P)) (pages : List (Given P))
      (given : Given P) → AreFirst found entries pages
      → IsNextPage found entries (length pages) given → AreFirst found entries (pages ++ given ∷ [])
  first_next (Unknown rules) entries pages given first next =
      let here : slice_get entries (length (map (λ (g : Given P). g.entry) pages))
      ≡ Some given.entry =
      ap (slice_get entries) (length-map pages (λ (g : Given P). g.entry)) ∙ next.1 in
      let begins =
      begins_next (map (λ (g : Given P). g.entry) pages) entries given.entry first.1 here in (
        All-append (IsGiven rules) pages (given ∷ []) first.0 (one_given rules given next.0),
        (
          begins.0,
          begins.1
              ∙ ap (λ (l : List (Entry P)). l ++ begins.0)
              (sym (map-append (λ (g : Given P). g.entry) pages (given ∷ []))),
        ),
      )
  first_next (Known f) entries pages given first next =
      begins_next pages (readable_pages f entries) given first next

  -- nothing was answered yet
  pub answered_none : (found : Reading) (may : Entry P → Type 0) (entries : List (Entry P))
      → IsAnswer found may entries (record { pages = []; endings = [] })
  answered_none found may entries = record { first = first_none found entries; endings = tt }

  -- an answer that is next keeps the answers lawful
  pub answered_next : (found : Reading) (may : Entry P → Type 0) (entries : List (Entry P))
      (pages : List (Given P)) (next : Next P)
      → IsAnswer found may entries (record { pages = pages; endings = [] })
      → IsNext found may entries (length pages) next
      → IsAnswer found may entries (with_next pages next)
  answered_next found may entries pages (Page given) before is =
      record { first = first_next found entries pages given before.first is; endings = tt }
  answered_next found may entries pages (Stop end) before is =
      record { first = before.first; endings = (is, no_others end) }

  -- and so does the same ending again
  pub answered_again : (found : Reading) (may : Entry P → Type 0) (entries : List (Entry P))
      (pages : List (Given P)) (end : Ending) (more : List Ending)
      → IsAnswer found may entries (record { pages = pages; endings = end ∷ more })
      → IsAnswer found may entries (record { pages = pages; endings = end ∷ end ∷ more })
  answered_again found may entries pages end more before = record {
    first = before.first;
    endings = (
      before.endings.0,
      All-append (λ (other : Ending). other ≡ end) (end ∷ []) more
          (λ k d below. (let first : k ≡ 0 = omega arith in rw first refl)) before.endings.1,
    );
  }
