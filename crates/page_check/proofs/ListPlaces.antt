-- Places of a list: what stands there, and how far reading gets.
use Rattle.std.proofs.Common.{◌≡◌, ℕ, ◌<◌, ◌≤◌, zero, suc, Bool, true, false, List, [], ◌∷◌}
use Rattle.std.proofs.Common.{length, take, refl, ap, ◌∙◌, arith}
use Rattle.std.specs.Prelude.{Some, slice_get}
use Rattle.std.specs.Option.{option_map}
use Rattle.std.proofs.lemmas.List.{length-map}
use Rattle.std.proofs.lemmas.List.Folds.{length-prefix_len}
use Rattle.std.proofs.lemmas.Option.{slice_get-map}
use Rattle.page_check.specs.SynchronousAnswer.{Entry, Reader, can_read, read_count}
use Rattle.page_check.specs.SynchronousAnswer.{entry_given, readable_pages}
use Rattle.page_check.proofs.SynchronousReads.{read_count-cons, read_count-stop}

taken_at : {X : Type 0} (n : ℕ) (xs : List X) (k : ℕ) (x : X) → slice_get xs k ≡ Some x → k < n
    → slice_get (take n xs) k ≡ Some x
taken_at zero xs k x here below = absurd (omega arith)
taken_at (suc n) [] k x here below = here
taken_at (suc n) (z ∷ xs) zero x here below = here
taken_at (suc n) (z ∷ xs) (suc k) x here below = taken_at n xs k x here (omega arith)

module _ {P : Type 0} (found : Reader) where
  within_one : (e : Entry P) (es : List (Entry P)) (b : Bool) → can_read found e ≡ b
      → read_count found es ≤ length es → read_count found (e ∷ es) ≤ length (e ∷ es)
  within_one e es true can rest = omega (arith, read_count-cons found e es can)
  within_one e es false cannot rest = omega (arith, read_count-stop found e es cannot)

  none_read : (es : List (Entry P)) → es ≡ [] → read_count found es ≡ 0
  unfolding read_count
  none_read es none = rw none refl

  -- no more entries can be read than there are
  pub count-within : (es : List (Entry P)) → read_count found es ≤ length es
  count-within [] = omega (arith, none_read [] refl)
  count-within (e ∷ es) = within_one e es (can_read found e) refl (count-within es)

  more_one : (x : Entry P) (es : List (Entry P)) (k : ℕ) (b : Bool) → can_read found x ≡ b
      → suc k ≤ read_count found (x ∷ es) → (k ≤ read_count found es → k < read_count found es)
      → suc k < read_count found (x ∷ es)
  more_one x es k true can far rest =
      let count = read_count-cons found x es can in
      let more = rest (omega arith) in
      omega arith
  more_one x es k false cannot far rest =
      absurd (omega (arith, read_count-stop found x es cannot))

  -- reading gets beyond an entry that gives its page
  pub count-more : (es : List (Entry P)) (k : ℕ) (e : Entry P) → slice_get es k ≡ Some e
      → k ≤ read_count found es → can_read found e ≡ true → k < read_count found es
  count-more [] k e here far can = absurd (cc)
  count-more (x ∷ es) zero e here far can =
      let same : x ≡ e = cc in
      let can_first = ap (λ (z : Entry P). can_read found z) same ∙ can in
      omega (arith, read_count-cons found x es can_first)
  count-more (x ∷ es) (suc k) e here far can =
      more_one x es k (can_read found x) refl far (λ further. count-more es k e here further can)

  stop_one : (x : Entry P) (es : List (Entry P)) (k : ℕ) (b : Bool) → can_read found x ≡ b
      → suc k ≤ read_count found (x ∷ es) → (k ≤ read_count found es → read_count found es ≡ k)
      → read_count found (x ∷ es) ≡ suc k
  stop_one x es k true can far rest =
      let count = read_count-cons found x es can in
      let same = rest (omega arith) in
      omega arith
  stop_one x es k false cannot far rest =
      absurd (omega (arith, read_count-stop found x es cannot))

  -- and stops at one that gives none
  pub count-stop : (es : List (Entry P)) (k : ℕ) (e : Entry P) → slice_get es k ≡ Some e
      → k ≤ read_count found es → can_read found e ≡ false → read_count found es ≡ k
  count-stop [] k e here far cannot = absurd (cc)
  count-stop (x ∷ es) zero e here far cannot =
      let same : x ≡ e = cc in
      read_count-stop found x es (ap (λ (z : Entry P). can_read found z) same ∙ cannot)
  count-stop (x ∷ es) (suc k) e here far cannot =
      stop_one x es k (can_read found x) refl far (λ further. count-stop es k e here further cannot)

  -- a page for each entry that can be read
  pub readable_pages-length : (es : List (Entry P))
      → length (readable_pages found es) ≡ read_count found es
  unfolding read_count
  readable_pages-length es =
      length-map (take (read_count found es) es) (entry_given found)
      ∙ length-prefix_len (can_read found) es

  -- the page of an entry that can be read
  pub readable_pages-at : (es : List (Entry P)) (k : ℕ) (e : Entry P) → slice_get es k ≡ Some e
      → k < read_count found es → slice_get (readable_pages found es) k ≡ Some (entry_given found e)
  readable_pages-at es k e here below =
      slice_get-map (entry_given found) (take (read_count found es) es) k
      ∙ ap (option_map (entry_given found)) (taken_at (read_count found es) es k e here below)
