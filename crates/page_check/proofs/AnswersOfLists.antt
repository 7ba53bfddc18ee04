-- Answers to lists that are joined.
use Rattle.std.proofs.Common.{◌≡◌, ◌≢◌, ◌⊎◌, ℕ, ◌+◌, List, [], ◌∷◌, ◌++◌, length, map, refl, sym}
use Rattle.std.proofs.Common.{ap}
use Rattle.std.proofs.Common.{◌∙◌, arith, append_assoc, append-nil, inl, inr, true, false, subst}
use Rattle.std.proofs.Common.{length-append}
use Rattle.std.specs.Prelude.{slice_get}
use Rattle.std.specs.List.{All}
use Rattle.std.proofs.lemmas.List.{length-map, map-append}
use Rattle.std.proofs.lemmas.List.Elements.{All-append}
use Rattle.page_check.specs.SynchronousAnswer.{Reading, Known, Unknown}
use Rattle.page_check.specs.SynchronousAnswer.{Entry, Given, Ending, End, Invalid, PastEnd, Unread}
use Rattle.page_check.specs.SynchronousAnswer.{Found, Page, BadPage, Absent, Reader}
use Rattle.page_check.specs.SynchronousAnswer.{entry_given}
use Rattle.page_check.specs.SynchronousAnswer.{entry_found, is_page, can_read, readable_pages}
use Rattle.page_check.specs.SynchronousAnswer.{first_stop}
use Rattle.page_check.specs.SynchronousAnswer.{found_ending, stop_ending, list_ending}
use Rattle.page_check.specs.IsAnswer.{IsPrefix, IsGiven, AreFirst, StopsAt, EndsAt, IsEnding}
use Rattle.page_check.specs.IsAnswer.{IsAnswer, OneEnding}
use Rattle.page_check.proofs.SynchronousReads.{readable_pages-cons, first_stop-cons}
use Rattle.page_check.proofs.SynchronousReads.{readable_pages-none}
use Rattle.page_check.proofs.SynchronousReads.{readable_pages-stop, first_stop-stop}
use Rattle.page_check.proofs.SynchronousReads.{first_stop-none}
use Rattle.page_check.proofs.ListPlaces.{readable_pages-length}
use Rattle.page_check.proofs.AnswersInOrder.{begins_more, begins_all, slice_get_front}
use Rattle.page_check.proofs.AnswersInOrder.{slice_get_back}

-- an entry gives its page, or reading stops at it
gives_or_stops : (r : Found) → (is_page r ≡ true) ⊎ (is_page r ≡ false)
gives_or_stops (Page mark bytes) = inl refl
gives_or_stops BadPage = inr refl
gives_or_stops Absent = inr refl

not_end : (r : Found) (block : ℕ) → is_page r ≡ false → found_ending r block ≢ End
not_end (Page mark bytes) block none is = absurd (cc)
not_end BadPage block none is = absurd (cc)
not_end Absent block none is = absurd (cc)

module _ {P : Type 0} (f : Reader) where
  -- what a list that was given whole adds
  pub record IsWhole (xs ys : List (Entry P)) : Type 0 where
    pub all : length (readable_pages f xs) ≡ length xs
    pub pages : readable_pages f (xs ++ ys) ≡ readable_pages f xs ++ readable_pages f ys
    pub stop : first_stop f (xs ++ ys) ≡ first_stop f ys

  whole_next : (x : Entry P) (xs ys : List (Entry P)) → can_read f x ≡ true → IsWhole xs ys
      → IsWhole (x ∷ xs) ys
  whole_next x xs ys can rest =
      let g = entry_given f x in
      let here = readable_pages-cons f x xs can in record {
        all = omega (arith, ap length here, rest.all);
        pages = readable_pages-cons f x (xs ++ ys) can
            ∙ ap (λ (l : List (Given P)). g ∷ l) rest.pages
            ∙ ap (λ (l : List (Given P)). l ++ readable_pages f ys) (sym here);
        stop = first_stop-cons f x (xs ++ ys) can ∙ rest.stop;
      }

  ending_next : (x : Entry P) (xs : List (Entry P)) → can_read f x ≡ true
      → list_ending f (x ∷ xs) ≡ list_ending f xs
  ending_next x xs can = ap (stop_ending f) (first_stop-cons f x xs can)

  ending_here : (x : Entry P) (xs : List (Entry P)) → can_read f x ≡ false
      → list_ending f (x ∷ xs) ≡ found_ending (entry_found f x) x.block
  ending_here x xs none = ap (stop_ending f) (first_stop-stop f x xs none)

  pub whole : (xs ys : List (Entry P)) → list_ending f xs ≡ End → IsWhole xs ys
  whole [] ys end = record {
    all = ap length (readable_pages-none f);
    pages = ap (λ (l : List (Given P)). l ++ readable_pages f ys) (sym (readable_pages-none f));
    stop = refl;
  }
  whole (x ∷ xs) ys end = elim (gives_or_stops (entry_found f x)) [
    | inl can ↦ whole_next x xs ys can (whole xs ys (sym (ending_next x xs can) ∙ end))
    | inr none ↦ absurd (not_end (entry_found f x) x.block none (sym (ending_here x xs none) ∙ end))
  ]

  -- what stands behind the entry at which a list stopped adds nothing
  pub record IsStopped (xs ys : List (Entry P)) : Type 0 where
    pub pages : readable_pages f (xs ++ ys) ≡ readable_pages f xs
    pub stop : first_stop f (xs ++ ys) ≡ first_stop f xs

  stopped_next : (x : Entry P) (xs ys : List (Entry P)) → can_read f x ≡ true → IsStopped xs ys
      → IsStopped (x ∷ xs) ys
  stopped_next x xs ys can rest =
      let g = entry_given f x in record {
        pages = readable_pages-cons f x (xs ++ ys) can
            ∙ ap (λ (l : List (Given P)). g ∷ l) rest.pages
            ∙ sym (readable_pages-cons f x xs can);
        stop = first_stop-cons f x (xs ++ ys) can ∙ rest.stop ∙ sym (first_stop-cons f x xs can);
      }

  pub stopped : (xs ys : List (Entry P)) → list_ending f xs ≢ End → IsStopped xs ys
  stopped [] ys end = absurd (end (ap (stop_ending {P = P} f) (first_stop-none f)))
  stopped (x ∷ xs) ys end = elim (gives_or_stops (entry_found f x)) [
    | inl can ↦ stopped_next x xs ys can (stopped xs ys (λ e. end (ending_next x xs can ∙ e)))
    | inr none ↦ record {
      pages = readable_pages-stop f x (xs ++ ys) none ∙ sym (readable_pages-stop f x xs none);
      stop = first_stop-stop f x (xs ++ ys) none ∙ sym (first_stop-stop f x xs none);
    }
  ]

  begins_by : (end : Ending) (xs ys : List (Entry P)) → list_ending f xs ≡ end
      → IsPrefix (readable_pages f xs) (readable_pages f (xs ++ ys))
  begins_by End xs ys is = (readable_pages f ys, (whole xs ys is).pages)
  begins_by (Invalid b) xs ys is =
      ([], (stopped xs ys (λ e. cc)).pages ∙ sym (append-nil (readable_pages f xs)))
  begins_by (PastEnd b) xs ys is =
      ([], (stopped xs ys (λ e. cc)).pages ∙ sym (append-nil (readable_pages f xs)))
  begins_by (Unread b) xs ys is =
      ([], (stopped xs ys (λ e. cc)).pages ∙ sym (append-nil (readable_pages f xs)))

begins_trans : {X : Type 0} (xs ys zs : List X) → IsPrefix xs ys → IsPrefix ys zs → IsPrefix xs zs
begins_trans {X} xs ys zs first second = (
  first.0 ++ second.0,
  second.1 ∙ ap (λ (l : List X). l ++ second.0) first.1 ∙ append_assoc xs first.0 second.0,
)

begins_append : {X : Type 0} (front back more : List X) → IsPrefix back more
    → IsPrefix (front ++ back) (front ++ more)
begins_append {X} front back more begins = (
  begins.0,
  ap (λ (l : List X). front ++ l) begins.1 ∙ sym (append_assoc front back begins.0),
)

module _ {P : Type 0} where
  -- the first pages of a list are those of a longer one
  first_more : (found : Reading) (xs ys : List (Entry P)) (pages : List (Given P))
      → AreFirst found xs pages → AreFirst found (xs ++ ys) pages
  first_more (Unknown rules) xs ys pages first =
      (first.0, begins_more (map (λ (g : Given P). g.entry) pages) xs ys first.1)
  first_more (Known f) xs ys pages first =
      begins_trans pages (readable_pages f xs) (readable_pages f (xs ++ ys)) first
      (begins_by f (list_ending f xs) xs ys refl)

  stops_more : (may : Entry P → Type 0) (xs ys : List (Entry P)) (k b : ℕ) → StopsAt may xs k b
      → StopsAt may (xs ++ ys) k b
  stops_more may xs ys k b stops = record {
    next = stops.next;
    here = slice_get_front xs ys k stops.next stops.here;
    named = stops.named;
    cause = stops.cause;
  }

  ends_more_told : (f : Reader) (xs ys : List (Entry P)) (k : ℕ) (end : Ending) → end ≢ End
      → EndsAt (Known f) xs k end → EndsAt (Known f) (xs ++ ys) k end
  ends_more_told f xs ys k end more ends =
      let same = stopped f xs ys (λ e. more (sym ends.1 ∙ e)) in
      (ends.0 ∙ ap length (sym same.pages), ap (stop_ending f) same.stop ∙ ends.1)

  ending_more : (found : Reading) (may : Entry P → Type 0) (xs ys : List (Entry P)) (k : ℕ)
      (end : Ending) → end ≢ End → IsEnding found may xs k end → IsEnding found may (xs ++ ys) k end
  ending_more found may xs ys k End more is = absurd (more refl)
  ending_more found may xs ys k (Unread b) more is = stops_more may xs ys k b is
  ending_more (Unknown rules) may xs ys k (Invalid b) more is = stops_more _ xs ys k b is
  ending_more (Unknown rules) may xs ys k (PastEnd b) more is = stops_more _ xs ys k b is
  ending_more (Known f) may xs ys k (Invalid b) more is =
      ends_more_told f xs ys k (Invalid b) (λ e. cc) is
  ending_more (Known f) may xs ys k (PastEnd b) more is =
      ends_more_told f xs ys k (PastEnd b) (λ e. cc) is

  -- answers that stopped, or that have no ending yet, are those of any longer list
  pub answered_more : (found : Reading) (may : Entry P → Type 0) (xs ys : List (Entry P))
      (pages : List (Given P)) (endings : List Ending) → All (λ end. end ≢ End) endings
      → IsAnswer found may xs (record { pages = pages; endings = endings })
      → IsAnswer found may (xs ++ ys) (record { pages = pages; endings = endings })
  answered_more found may xs ys pages [] stopped answer =
      record { first = first_more found xs ys pages answer.first; endings = tt }
  answered_more found may xs ys pages (end ∷ more) stopped answer = record {
    first = first_more found xs ys pages answer.first;
    endings = (
      ending_more found may xs ys (length pages) end (stopped 0 end (omega arith)) answer.endings.0,
      answer.endings.1,
    );
  }

  -- a list that was answered to its end, as far as a longer one needs it
  first_append : (found : Reading) (xs ys : List (Entry P)) (front back : List (Given P))
      → AreFirst found xs front → EndsAt found xs (length front) End → AreFirst found ys back
      → AreFirst found (xs ++ ys) (front ++ back)
  first_append (Unknown rules) xs ys front back first end second =
      let entries : List (Given P) → List (Entry P) = map (λ g. g.entry) in
      let all : xs ≡ entries front = begins_all (entries front) xs first.1
      (length-map front (λ (g : Given P). g.entry) ∙ end) in
      let begins = begins_append (entries front) (entries back) ys second.1 in (
        All-append (IsGiven rules) front back first.0 second.0,
        (
          begins.0,
          ap (λ (l : List (Entry P)). l ++ ys) all ∙ begins.1
              ∙ ap (λ (l : List (Entry P)). l ++ begins.0)
              (sym (map-append (λ (g : Given P). g.entry) front back)),
        ),
      )
  first_append (Known f) xs ys front back first end second =
      let all : readable_pages f xs ≡ front = begins_all front (readable_pages f xs) first end.0 in
      let begins = begins_append front back (readable_pages f ys) second in (
        begins.0,
        (whole f xs ys end.1).pages ∙ ap (λ (l : List (Given P)). l ++ readable_pages f ys) all
            ∙ begins.1,
      )

  pub length_whole : (found : Reading) (xs : List (Entry P)) (front : List (Given P))
      → EndsAt found xs (length front) End → length front ≡ length xs
  length_whole (Unknown rules) xs front end = end
  length_whole (Known f) xs front end = end.0 ∙ (whole f xs [] end.1).all

  stops_append : (may : Entry P → Type 0) (xs ys : List (Entry P)) (n k b : ℕ) → n ≡ length xs
      → StopsAt may ys k b → StopsAt may (xs ++ ys) (n + k) b
  stops_append may xs ys n k b same stops = record {
    next = stops.next;
    here = ap (λ (m : ℕ). slice_get (xs ++ ys) (m + k)) same ∙ slice_get_back xs ys k ∙ stops.here;
    named = stops.named;
    cause = stops.cause;
  }

  ends_append : (found : Reading) (xs ys : List (Entry P)) (front : List (Given P)) (k : ℕ)
      (end : Ending) → EndsAt found xs (length front) End → EndsAt found ys k end
      → EndsAt found (xs ++ ys) (length front + k) end
  ends_append (Unknown rules) xs ys front k End all ends = omega (arith, all, ends, length-append xs ys)
  ends_append (Unknown rules) xs ys front k (Invalid b) all ends =
      stops_append _ xs ys (length front) k b all ends
  ends_append (Unknown rules) xs ys front k (PastEnd b) all ends =
      stops_append _ xs ys (length front) k b all ends
  ends_append (Unknown rules) xs ys front k (Unread b) all ends = absurd ends
  ends_append (Known f) xs ys front k end all ends =
      let both = whole f xs ys all.1 in (
        omega (
          arith,
          all.0,
          ends.0,
          ap length both.pages,
          length-append (readable_pages f xs) (readable_pages f ys),
        ),
        ap (stop_ending f) both.stop ∙ ends.1,
      )

  ending_append : (found : Reading) (may : Entry P → Type 0) (xs ys : List (Entry P))
      (front : List (Given P)) (k : ℕ) (end : Ending) → EndsAt found xs (length front) End
      → IsEnding found may ys k end → IsEnding found may (xs ++ ys) (length front + k) end
  ending_append found may xs ys front k End all is = ends_append found xs ys front k End all is
  ending_append found may xs ys front k (Invalid b) all is =
      ends_append found xs ys front k (Invalid b) all is
  ending_append found may xs ys front k (PastEnd b) all is =
      ends_append found xs ys front k (PastEnd b) all is
  ending_append found may xs ys front k (Unread b) all is =
      stops_append may xs ys (length front) k b (length_whole found xs front all) is

  endings_append : (found : Reading) (may : Entry P → Type 0) (xs ys : List (Entry P))
      (front back : List (Given P)) (endings : List Ending) → EndsAt found xs (length front) End
      → OneEnding (IsEnding found may ys (length back)) endings
      → OneEnding (IsEnding found may (xs ++ ys) (length (front ++ back))) endings
  endings_append found may xs ys front back [] all is = tt
  endings_append found may xs ys front back (end ∷ more) all is =
      let Q : ℕ → Type 0 = λ k. IsEnding found may (xs ++ ys) k end in (
        subst Q (sym (length-append front back))
            (ending_append found may xs ys front (length back) end all is.0),
        is.1,
      )

  -- a list that was answered to its end, and then another
  pub answered_append : (found : Reading) (may : Entry P → Type 0) (xs ys : List (Entry P))
      (front back : List (Given P)) (endings : List Ending)
      → IsAnswer found may xs (record { pages = front; endings = End ∷ [] })
      → IsAnswer found may ys (record { pages = back; endings = endings })
      → IsAnswer found may (xs ++ ys) (record { pages = front ++ back; endings = endings })
  answered_append found may xs ys front back endings first second = record {
    first = first_append found xs ys front back first.first first.endings.0 second.first;
    endings =
        endings_append found may xs ys front back endings first.endings.0 second.endings;
  }

module _ {P : Type 0} where
  -- all pages of synchronous reads were given
  pub all_given : (f : Reader) (entries : List (Entry P)) (pages : List (Given P))
      → AreFirst (Known f) entries pages → length pages ≡ length (readable_pages f entries)
      → readable_pages f entries ≡ pages
  all_given f entries pages first same = begins_all pages (readable_pages f entries) first same

  -- reading stops at the entry behind the pages
  pub first_stop-length : (f : Reader) (entries : List (Entry P))
      → first_stop f entries ≡ slice_get entries (length (readable_pages f entries))
  first_stop-length f entries = ap (slice_get entries) (sym (readable_pages-length f entries))

  -- how the answers ended: as synchronous reads do, with all their pages, or at an entry that was
  -- not read
  pub ended_as_told : (f : Reader) (may : Entry P → Type 0) (entries : List (Entry P))
      (pages : List (Given P)) (end : Ending) (more : List Ending)
      → IsAnswer (Known f) may entries (record { pages = pages; endings = end ∷ more })
      → ((readable_pages f entries ≡ pages) × (list_ending f entries ≡ end))
      ⊎ ((b : ℕ) × (end ≡ Unread b))
  ended_as_told f may entries pages (Unread b) more answer = inr (b, refl)
  ended_as_told f may entries pages End more answer =
      let ends = answer.endings.0 in
      inl (all_given f entries pages answer.first ends.0, ends.1)
  ended_as_told f may entries pages (Invalid b) more answer =
      let ends = answer.endings.0 in
      inl (all_given f entries pages answer.first ends.0, ends.1)
  ended_as_told f may entries pages (PastEnd b) more answer =
      let ends = answer.endings.0 in
      inl (all_given f entries pages answer.first ends.0, ends.1)
