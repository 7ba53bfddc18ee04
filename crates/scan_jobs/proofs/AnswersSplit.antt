-- Answers to two lists that are joined, split into those of each list.
use Rattle.std.proofs.Common.{◌≡◌, ◌≢◌, ◌⊎◌, ℕ, ◌+◌, ◌<◌, ◌≤◌, List, [], ◌∷◌, ◌++◌}
use Rattle.std.proofs.Common.{length, map, take, drop, sym, ap, subst, ◌∙◌, inl, inr, arith}
use Rattle.std.proofs.Common.{append-nil, length-append, length-drop}
use Rattle.page_check.specs.declared.rules.PageRules.{PageRules}
use Rattle.std.proofs.lemmas.List.{length-map, length-take-le}
use Rattle.std.proofs.lemmas.List.{take-map, drop-map}
use Rattle.std.proofs.lemmas.List.Elements.{All-take, All-drop}
use Rattle.std.proofs.lemmas.Option.{slice_get_past}
use mathlib.Core.Logic.{dite}
use native.Mathlib.Decide.{dec_le}
use Rattle.page_check.specs.SynchronousAnswer.{Entry, Given, Ending, End, Invalid, PastEnd, Unread}
use Rattle.page_check.specs.SynchronousAnswer.{Reading, Known, Unknown}
use Rattle.page_check.specs.SynchronousAnswer.{Reader, read_count, readable_pages, stop_ending}
use Rattle.page_check.specs.SynchronousAnswer.{list_ending}
use Rattle.page_check.specs.IsAnswer.{IsGiven, AreFirst, StopsAt, EndsAt, IsEnding}
use Rattle.page_check.specs.IsAnswer.{OneEnding, IsAnswer}
use Rattle.page_check.proofs.AnswersInOrder.{slice_get_back, no_others}
use Rattle.page_check.proofs.AnswersOfLists.{IsWhole, whole, IsStopped, stopped}
use Rattle.page_check.proofs.ListPlaces.{readable_pages-length}
use Rattle.scan_jobs.proofs.JoinedLists.{back_dropped, begins_front, begins_within, front_taken}
use Rattle.scan_jobs.proofs.JoinedLists.{slice_get_within}

module _ {P : Type 0} where
  -- a list that can be read whole ends behind its last page
  ends_whole : (f : Reader) (xs : List (Entry P)) → length xs ≤ read_count f xs
      → list_ending f xs ≡ End
  ends_whole f xs all = ap (stop_ending f) (slice_get_past xs (read_count f xs) all)

  -- one that cannot ends early
  ends_early : (f : Reader) (xs : List (Entry P)) → read_count f xs < length xs
      → list_ending f xs ≢ End
  ends_early f xs few end =
      omega (arith, few, (whole f xs [] end).all, readable_pages-length f xs)

  -- a list that more is joined to is read whole, or reading stops within it
  whole_or_stopped : (f : Reader) (xs ys : List (Entry P)) → IsWhole f xs ys ⊎ IsStopped f xs ys
  whole_or_stopped f xs ys = dite (dec_le (length xs) (read_count f xs))
      (λ all. inl (whole f xs ys (ends_whole f xs all)))
      (λ few. inr (stopped f xs ys (ends_early f xs (omega (arith, few)))))

  -- a list is read whole where a longer one has as many pages
  whole_before : (f : Reader) (xs ys : List (Entry P)) (pages : List (Given P))
      → AreFirst (Known f) (xs ++ ys) pages → length xs ≤ length pages → list_ending f xs ≡ End
  whole_before f xs ys pages first far =
      let many = begins_within pages (readable_pages f (xs ++ ys)) first in
      let count = readable_pages-length f xs in
      elim (whole_or_stopped f xs ys) [
        | inl is ↦ ends_whole f xs (omega (arith, is.all))
        | inr is ↦ ends_whole f xs (omega (arith, ap length is.pages))
      ]

  -- the pages of the first list
  first_front : (found : Reading) (xs ys : List (Entry P)) (pages : List (Given P))
      → length xs ≤ length pages → AreFirst found (xs ++ ys) pages
      → AreFirst found xs (take (length xs) pages)
  first_front (Unknown rules) xs ys pages far first =
      let n = length xs in
      let es : List (Entry P) = map (λ (g : Given P). g.entry) pages in
      let same = front_taken xs ys es first.1.0 first.1.1
      (omega (arith, length-map pages (λ (g : Given P). g.entry))) in (
        All-take (IsGiven rules) n pages first.0,
        ([], same ∙ take-map (λ (g : Given P). g.entry) n pages ∙ sym (append-nil _)),
      )
  first_front (Known f) xs ys pages far first =
      let is = whole f xs ys (whole_before f xs ys pages first far) in
      let same = front_taken (readable_pages f xs) (readable_pages f ys) pages first.0
      (sym is.pages ∙ first.1) (omega (arith, is.all)) in
      ([], same ∙ ap (λ (n : ℕ). take n pages) is.all ∙ sym (append-nil _))

  -- and its end
  end_front : (found : Reading) (xs ys : List (Entry P)) (pages : List (Given P))
      → length xs ≤ length pages → AreFirst found (xs ++ ys) pages
      → EndsAt found xs (length (take (length xs) pages)) End
  end_front (Unknown rules) xs ys pages far first = length-take-le (length xs) pages far
  end_front (Known f) xs ys pages far first =
      let end = whole_before f xs ys pages first far in
      (length-take-le (length xs) pages far ∙ sym (whole f xs ys end).all, end)

  -- the first of two lists was answered whole, to its end
  pub answered_front : (found : Reading) (may : Entry P → Type 0) (xs ys : List (Entry P))
      (pages : List (Given P)) (endings : List Ending) → length xs ≤ length pages
      → IsAnswer found may (xs ++ ys) (record { pages = pages; endings = endings })
      → IsAnswer found may xs (record { pages = take (length xs) pages; endings = End ∷ [] })
  answered_front found may xs ys pages endings far answer = record {
    first = first_front found xs ys pages far answer.first;
    endings = (end_front found xs ys pages far answer.first, no_others End);
  }

  -- the pages of the second list
  first_back : (found : Reading) (xs ys : List (Entry P)) (pages : List (Given P))
      → length xs ≤ length pages → AreFirst found (xs ++ ys) pages
      → AreFirst found ys (drop (length xs) pages)
  first_back (Unknown rules) xs ys pages far first =
      let n = length xs in
      let es : List (Entry P) = map (λ (g : Given P). g.entry) pages in
      let same = back_dropped xs ys es first.1.0 first.1.1
      (omega (arith, length-map pages (λ (g : Given P). g.entry))) in (
        All-drop (IsGiven rules) n pages first.0,
        (
          first.1.0,
          same ∙ ap (λ (l : List (Entry P)). l ++ first.1.0)
              (drop-map (λ (g : Given P). g.entry) n pages),
        ),
      )
  first_back (Known f) xs ys pages far first =
      let is = whole f xs ys (whole_before f xs ys pages first far) in
      let same = back_dropped (readable_pages f xs) (readable_pages f ys) pages first.0
      (sym is.pages ∙ first.1) (omega (arith, is.all)) in
      (first.0, same ∙ ap (λ (n : ℕ). drop n pages ++ first.0) is.all)

  -- an entry of the second list
  stops_back : (may : Entry P → Type 0) (xs ys : List (Entry P)) (k b : ℕ)
      → StopsAt may (xs ++ ys) (length xs + k) b → StopsAt may ys k b
  stops_back may xs ys k b stops = record {
    next = stops.next;
    here = sym (slice_get_back xs ys k) ∙ stops.here;
    named = stops.named;
    cause = stops.cause;
  }

  -- how the second list ends, where the contents are told
  ends_back_told : (f : Reader) (xs ys : List (Entry P)) (k : ℕ) (end : Ending)
      → list_ending f xs ≡ End → EndsAt (Known f) (xs ++ ys) (length xs + k) end
      → EndsAt (Known f) ys k end
  ends_back_told f xs ys k end all ends =
      let is = whole f xs ys all in (
        omega (
          arith,
          ends.0,
          is.all,
          ap length is.pages,
          length-append (readable_pages f xs) (readable_pages f ys),
        ),
        ap (stop_ending f) (sym is.stop) ∙ ends.1,
      )

  -- and where nothing is told
  ends_back_untold : (rules : PageRules) (xs ys : List (Entry P)) (k : ℕ) (end : Ending)
      → EndsAt (Unknown rules) (xs ++ ys) (length xs + k) end → EndsAt (Unknown rules) ys k end
  ends_back_untold rules xs ys k End ends = omega (arith, ends, length-append xs ys)
  ends_back_untold rules xs ys k (Invalid b) ends = stops_back _ xs ys k b ends
  ends_back_untold rules xs ys k (PastEnd b) ends = stops_back _ xs ys k b ends
  ends_back_untold rules xs ys k (Unread b) ends = absurd ends

  -- and in either case
  ends_back : (found : Reading) (xs ys : List (Entry P)) (pages : List (Given P)) (k : ℕ)
      (end : Ending) → length xs ≤ length pages → AreFirst found (xs ++ ys) pages
      → EndsAt found (xs ++ ys) (length xs + k) end → EndsAt found ys k end
  ends_back (Unknown rules) xs ys pages k end far first ends = ends_back_untold rules xs ys k end ends
  ends_back (Known f) xs ys pages k end far first ends =
      ends_back_told f xs ys k end (whole_before f xs ys pages first far) ends

  -- an ending of both lists is one of the second
  ending_back : (found : Reading) (may : Entry P → Type 0) (xs ys : List (Entry P))
      (pages : List (Given P)) (k : ℕ) (end : Ending) → length xs ≤ length pages
      → AreFirst found (xs ++ ys) pages → IsEnding found may (xs ++ ys) (length xs + k) end
      → IsEnding found may ys k end
  ending_back found may xs ys pages k End far first is =
      ends_back found xs ys pages k End far first is
  ending_back found may xs ys pages k (Invalid b) far first is =
      ends_back found xs ys pages k (Invalid b) far first is
  ending_back found may xs ys pages k (PastEnd b) far first is =
      ends_back found xs ys pages k (PastEnd b) far first is
  ending_back found may xs ys pages k (Unread b) far first is = stops_back may xs ys k b is

  -- and so it is with all that were asked for
  endings_back : (found : Reading) (may : Entry P → Type 0) (xs ys : List (Entry P))
      (pages : List (Given P)) (endings : List Ending) → length xs ≤ length pages
      → AreFirst found (xs ++ ys) pages
      → OneEnding (IsEnding found may (xs ++ ys) (length pages)) endings
      → OneEnding (IsEnding found may ys (length (drop (length xs) pages))) endings
  endings_back found may xs ys pages [] far first is = tt
  endings_back found may xs ys pages (end ∷ more) far first is =
      let k = length (drop (length xs) pages) in
      let here : length pages ≡ length xs + k = omega (arith, length-drop (length xs) pages) in
      let Q : ℕ → Type 0 = λ n. IsEnding found may (xs ++ ys) n end in
      (ending_back found may xs ys pages k end far first (subst Q here is.0), is.1)

  -- the second of two lists was answered with what is left
  pub answered_back : (found : Reading) (may : Entry P → Type 0) (xs ys : List (Entry P))
      (pages : List (Given P)) (endings : List Ending) → length xs ≤ length pages
      → IsAnswer found may (xs ++ ys) (record { pages = pages; endings = endings })
      → IsAnswer found may ys (record { pages = drop (length xs) pages; endings = endings })
  answered_back found may xs ys pages endings far answer = record {
    first = first_back found xs ys pages far answer.first;
    endings = endings_back found may xs ys pages endings far answer.first answer.endings;
  }

  -- fewer pages than the first list has entries are pages of it
  first_within : (found : Reading) (xs ys : List (Entry P)) (pages : List (Given P))
      → length pages < length xs → AreFirst found (xs ++ ys) pages → AreFirst found xs pages
  first_within (Unknown rules) xs ys pages short first = (
    first.0,
    begins_front (map (λ (g : Given P). g.entry) pages) xs ys first.1
        (omega (arith, length-map pages (λ (g : Given P). g.entry))),
  )
  first_within (Known f) xs ys pages short first = elim (whole_or_stopped f xs ys) [
    | inl is ↦ begins_front pages (readable_pages f xs) (readable_pages f ys)
        (first.0, sym is.pages ∙ first.1) (omega (arith, is.all))
    | inr is ↦ (first.0, sym is.pages ∙ first.1)
  ]

  -- an entry of the first list
  stops_within : (may : Entry P → Type 0) (xs ys : List (Entry P)) (k b : ℕ) → k < length xs
      → StopsAt may (xs ++ ys) k b → StopsAt may xs k b
  stops_within may xs ys k b below stops = record {
    next = stops.next;
    here = sym (slice_get_within xs ys k below) ∙ stops.here;
    named = stops.named;
    cause = stops.cause;
  }

  -- how the first list ends, where the contents are told
  ends_within_told : (f : Reader) (xs ys : List (Entry P)) (k : ℕ) (end : Ending)
      → k < length xs → EndsAt (Known f) (xs ++ ys) k end → EndsAt (Known f) xs k end
  ends_within_told f xs ys k end below ends = elim (whole_or_stopped f xs ys) [
    | inl is ↦ absurd (omega (
      arith,
      ends.0,
      is.all,
      ap length is.pages,
      length-append (readable_pages f xs) (readable_pages f ys),
    ))
    | inr is ↦ (ends.0 ∙ ap length is.pages, ap (stop_ending f) (sym is.stop) ∙ ends.1)
  ]

  -- and where nothing is told
  ends_within_untold : (rules : PageRules) (xs ys : List (Entry P)) (k : ℕ) (end : Ending) → k < length xs
      → EndsAt (Unknown rules) (xs ++ ys) k end → EndsAt (Unknown rules) xs k end
  ends_within_untold rules xs ys k End below ends =
      absurd (omega (arith, below, ends, length-append xs ys))
  ends_within_untold rules xs ys k (Invalid b) below ends = stops_within _ xs ys k b below ends
  ends_within_untold rules xs ys k (PastEnd b) below ends = stops_within _ xs ys k b below ends
  ends_within_untold rules xs ys k (Unread b) below ends = absurd ends

  -- and in either case
  ends_within : (found : Reading) (xs ys : List (Entry P)) (k : ℕ) (end : Ending)
      → k < length xs → EndsAt found (xs ++ ys) k end → EndsAt found xs k end
  ends_within (Unknown rules) xs ys k end below ends = ends_within_untold rules xs ys k end below ends
  ends_within (Known f) xs ys k end below ends = ends_within_told f xs ys k end below ends

  -- an ending of both lists that stands in the first is one of it
  ending_within : (found : Reading) (may : Entry P → Type 0) (xs ys : List (Entry P))
      (k : ℕ) (end : Ending) → k < length xs → IsEnding found may (xs ++ ys) k end
      → IsEnding found may xs k end
  ending_within found may xs ys k End below is = ends_within found xs ys k End below is
  ending_within found may xs ys k (Invalid b) below is =
      ends_within found xs ys k (Invalid b) below is
  ending_within found may xs ys k (PastEnd b) below is =
      ends_within found xs ys k (PastEnd b) below is
  ending_within found may xs ys k (Unread b) below is = stops_within may xs ys k b below is

  -- and so it is with all that were asked for
  endings_within : (found : Reading) (may : Entry P → Type 0) (xs ys : List (Entry P))
      (k : ℕ) (endings : List Ending) → k < length xs
      → OneEnding (IsEnding found may (xs ++ ys) k) endings
      → OneEnding (IsEnding found may xs k) endings
  endings_within found may xs ys k [] below is = tt
  endings_within found may xs ys k (end ∷ more) below is =
      (ending_within found may xs ys k end below is.0, is.1)

  -- answers that did not reach the second of two lists answer the first
  pub answered_within : (found : Reading) (may : Entry P → Type 0) (xs ys : List (Entry P))
      (pages : List (Given P)) (endings : List Ending) → length pages < length xs
      → IsAnswer found may (xs ++ ys) (record { pages = pages; endings = endings })
      → IsAnswer found may xs (record { pages = pages; endings = endings })
  answered_within found may xs ys pages endings short answer = record {
    first = first_within found xs ys pages short answer.first;
    endings = endings_within found may xs ys (length pages) endings short answer.endings;
  }
