-- A path whose items are written down from its end on.
use Rattle.std.proofs.Common.{◌≡◌, ◌≢◌, ℕ, zero, suc, ◌+◌, ◌<◌, ◌≤◌, Bool, true, false, ◌||◌, not}
use Rattle.std.proofs.Common.{List, [], ◌∷◌, ◌++◌, length, refl, ap, sym, ◌∙◌, arith, inl, inr, set}
use Rattle.std.proofs.Common.{get_or, subst, get_or-set_same, get_or-set_other, length-set}
use Rattle.std.specs.Prelude.{nat_eq, ◌==◌, Option, Some, None, IfSome}
use Rattle.std.specs.List.{IsDistinct}
use Rattle.std.proofs.lemmas.Bool.{or_left, or_right, or_from, eqb-true, both_ways}
use Rattle.std.proofs.lemmas.Bool.{cases_Bool, cases_eq, ne_eqb, not-false}
use Rattle.std.proofs.lemmas.Bool.Decides.{nat_tests}
use Rattle.heap_tuple.specs.Chains.{contains, StepsPass}
use Rattle.heap_tuple.specs.ChainLengths.{AreChainLengths, PassedAreKnown, RemainingLength, IsPath}
use Rattle.heap_tuple.specs.ChainLengths.{ClosesCircle}
use Rattle.heap_tuple.proofs.DistinctItems.{distinct-last, distinct-behind, contains-append}
use Rattle.heap_tuple.proofs.DistinctItems.{contains-left, contains-right, contains-first}
use Rattle.heap_tuple.proofs.DistinctItems.{distinct-apart, distinct-before}
use Rattle.heap_tuple.proofs.PassedItems.{passes-split, passes-less}
use Rattle.heap_tuple.proofs.ChainItems.{passes-few}
use Rattle.heap_tuple.proofs.KnownLengths.{known_more, circle_known}

or_false : (b : Bool) → (b || false) ≡ b
or_false true = refl
or_false false = refl

known_below : (lengths : List ℕ) (x : ℕ) → 0 < get_or lengths x 0 → x < length lengths
known_below [] x some = absurd (omega arith)
known_below (y ∷ ys) zero some = omega arith
known_below (y ∷ ys) (suc x) some = omega (arith, known_below ys x some)

module _ (next : ℕ → Option ℕ) where
  -- the chains of these items are not known yet, and the path leads on from the last of them
  pub record IsOpen (passed : List Bool) (lengths path : List ℕ) (first : ℕ)
      (at : Option ℕ) : Type 0 where
    pub distinct : IsDistinct nat_eq path
    pub steps : StepsPass next (Some first) path at
    pub free : (x : ℕ) → contains path x ≡ true → get_or lengths x 0 ≡ 0
    pub inside : (x : ℕ) → contains path x ≡ true → x < length lengths
    pub marked : (x : ℕ) → get_or passed x false
        ≡ (not (get_or lengths x 0 == 0) || contains path x)
    pub known : AreChainLengths next lengths

  pub open_start : (before after : List Bool) (lengths path : List ℕ) (first : ℕ) (at : Option ℕ)
      → AreChainLengths next lengths → PassedAreKnown before lengths → length before ≡ length lengths
      → IsPath before after path → StepsPass next (Some first) path at
      → IsOpen after lengths path first at
  open_start before after lengths path first at known marked size is steps = record {
    distinct = is.distinct;
    steps = steps;
    free = λ x here. eqb-true (get_or lengths x 0) 0
        (not-false (get_or lengths x 0 == 0) (sym (marked x) ∙ is.new x here));
    inside = λ x here. omega (arith, is.inside x here, size);
    marked = λ x. is.passed x ∙ ap (λ (b : Bool). b || contains path x) (marked x);
    known = known;
  }

  positive_test : (n : ℕ) → 0 < n → not (n == 0) ≡ true
  positive_test zero some = absurd (omega arith)
  positive_test (suc n) some = grind (arith, nat_tests)

  pub open_closed : (passed : List Bool) (lengths after path left : List ℕ) (first item chain : ℕ)
      → IsOpen passed lengths path first (Some item) → length after ≡ length lengths
      → ClosesCircle lengths after path left item chain
      → IsOpen passed after left first (Some item) × RemainingLength after (Some item) chain
  open_closed passed lengths after path left first item chain is size done =
      let circle = item ∷ done.rest in
      let distinct : IsDistinct nat_eq (left ++ circle) = rw (sym done.path_parts) is.distinct in
      let steps : StepsPass next (Some first) (left ++ circle) (Some item) = rw
      (sym done.path_parts) is.steps in
      let parts = passes-split next (Some first) (Some item) left circle steps in
      let to_item : StepsPass next (Some first) left (Some item) = rw (sym parts.2.0) parts.1 in
      let in_path : (x : ℕ) → contains left x ≡ true → contains path x ≡ true =
      λ x here. rw done.path_parts (contains-left left circle x here) in
      let free_circle : (x : ℕ) → contains circle x ≡ true → get_or lengths x 0 ≡ 0 =
      λ x here. is.free x (rw done.path_parts (contains-right left circle x here)) in
      let some : 0 < chain = omega (arith, done.size) in
      let apart = distinct-apart left circle distinct in (
        record {
          distinct = distinct-before left circle distinct;
          steps = to_item;
          free = λ x here. done.elsewhere x (apart x here) ∙ is.free x (in_path x here);
          inside = λ x here. omega (arith, is.inside x (in_path x here), size);
          marked = λ x. is.marked x ∙ elim (cases_Bool (contains circle x)) [
            | inl here ↦
                or_right (not (get_or lengths x 0 == 0)) (contains path x)
                (rw done.path_parts (contains-right left circle x here))
                ∙ sym (or_left (not (get_or after x 0 == 0)) (contains left x)
                (positive_test (get_or after x 0) (omega (arith, done.there x here, some))))
            | inr out ↦
                let same_path : contains path x ≡ contains left x =
                ap (λ (ys : List ℕ). contains ys x) done.path_parts ∙ contains-append left circle x
                ∙ rw out (or_false (contains left x)) in
                rw (done.elsewhere x out) (rw same_path refl)
          ];
          known = circle_known next lengths after item circle (refl, parts.2.1)
              (distinct-behind left circle distinct) free_circle
              (λ x here. done.there x here ∙ done.size) done.elsewhere (omega arith) is.known;
        },
        (sym (done.there item (contains-first item done.rest)), some),
      )

  pub open_less : (passed : List Bool) (lengths path left : List ℕ) (first x long : ℕ)
      (at : Option ℕ)
      → IsOpen passed lengths path first at → RemainingLength lengths at long
      → path ≡ left ++ x ∷ []
      → IsOpen passed (set lengths x (long + 1)) left first (Some x)
      × RemainingLength (set lengths x (long + 1)) (Some x) (long + 1)
  open_less passed lengths path left first x long at is remaining popped =
      let distinct = distinct-last left x (rw (sym popped) is.distinct) in
      let steps = passes-less next (Some first) at x left (rw (sym popped) is.steps) in
      let on_path : contains path x ≡ true = rw popped
      (contains-right left (x ∷ []) x (contains-first x [])) in
      let below = is.inside x on_path in
      let none = is.free x on_path in
      let here : get_or (set lengths x (long + 1)) x 0 ≡ long + 1 =
      get_or-set_same lengths x (long + 1) 0 below in
      let other : (y : ℕ) → (y ≢ x) → get_or (set lengths x (long + 1)) y 0 ≡ get_or lengths y 0 =
      λ y apart. get_or-set_other lengths x y (long + 1) 0 apart in
      let not_x : (y : ℕ) → contains left y ≡ true → y ≢ x =
      λ y there same. both_ways (contains left x) distinct.0 (rw (sym same) there) in (
        record {
          distinct = distinct.1;
          steps = steps.0;
          free = λ y there. other y (not_x y there)
              ∙ is.free y (rw popped (contains-left left (x ∷ []) y there));
          inside = λ y there. omega (
            arith,
            is.inside y (rw popped (contains-left left (x ∷ []) y there)),
            length-set lengths x (long + 1),
          );
          marked = λ y. is.marked y ∙ elim (cases_eq y x) [
            | inl same ↦
                or_right (not (get_or lengths y 0 == 0)) (contains path y) (rw same on_path)
                ∙ sym (or_left (not (get_or (set lengths x (long + 1)) y 0 == 0)) (contains left y)
                (rw same (positive_test (get_or (set lengths x (long + 1)) x 0)
                (omega (arith, here)))))
            | inr apart ↦
                let none_here : contains (x ∷ []) y
                ≡ false = or_from (y == x) false (ne_eqb y x apart) refl in
                let same_path : contains path y ≡ contains left y =
                ap (λ (ys : List ℕ). contains ys y) popped ∙ contains-append left (x ∷ []) y
                ∙ rw none_here (or_false (contains left y)) in
                rw (other y apart) (rw same_path refl)
          ];
          known = known_more next lengths at x long is.known remaining steps.1 below none;
        },
        (sym here, omega arith),
      )

  -- a known length is at most the number of items
  pub goes_few : (lengths : List ℕ) (at : Option ℕ) (long : ℕ)
      → ((x : ℕ) → x < length lengths → IfSome (next x) (λ y. y < length lengths))
      → AreChainLengths next lengths → RemainingLength lengths at long → long ≤ length lengths
  goes_few lengths None long each known remaining = omega (arith, remaining)
  goes_few lengths (Some x) long each known remaining =
      let is = known x (omega (arith, remaining.0, remaining.1)) in
      let below : x < length lengths = known_below lengths x
      (omega (arith, remaining.0, remaining.1)) in
      omega (
        arith,
        remaining.0,
        is.size,
        passes-few next (length lengths) (Some x) is.whole.last_step is.items each below
            is.whole.steps is.whole.distinct,
      )

  -- where the loop is
  pub record Unwinds (passed : List Bool) (lengths path : List ℕ) (first long : ℕ) : Type 0 where
    pub at : Option ℕ
    pub is_open : IsOpen passed lengths path first at
    pub remaining : RemainingLength lengths at long

  pub unwinds_closed : (passed : List Bool) (lengths after path left : List ℕ)
      (first item chain : ℕ)
      (at : Option ℕ) → IsOpen passed lengths path first at → at ≡ Some item
      → length after ≡ length lengths → ClosesCircle lengths after path left item chain
      → Unwinds passed after left first chain
  unwinds_closed passed lengths after path left first item chain at is stopped size done =
      let closed = open_closed passed lengths after path left first item chain
      (subst (λ o. IsOpen passed lengths path first o) stopped is) size done in
      record { at = Some item; is_open = closed.0; remaining = closed.1 }

  pub unwinds_known : (passed : List Bool) (lengths path : List ℕ) (first item long : ℕ)
      (at : Option ℕ) → IsOpen passed lengths path first at → at ≡ Some item
      → long ≡ get_or lengths item 0 → 0 < long → Unwinds passed lengths path first long
  unwinds_known passed lengths path first item long at is stopped there some = record {
    at = Some item;
    is_open = subst (λ o. IsOpen passed lengths path first o) stopped is;
    remaining = (there, some);
  }

  pub unwinds_none : (passed : List Bool) (lengths path : List ℕ) (first : ℕ) (at : Option ℕ)
      → IsOpen passed lengths path first at → at ≡ None → Unwinds passed lengths path first 0
  unwinds_none passed lengths path first at is stopped = record {
    at = None;
    is_open = subst (λ o. IsOpen passed lengths path first o) stopped is;
    remaining = refl;
  }

  pub unwinds_less : (passed : List Bool) (lengths path left : List ℕ) (first x read long : ℕ)
      → Unwinds passed lengths path first long → path ≡ left ++ x ∷ [] → read ≡ x
      → Unwinds passed (set lengths read (long + 1)) left first (long + 1)
  unwinds_less passed lengths path left first x read long is popped here =
      let less = open_less passed lengths path left first x long is.at is.is_open is.remaining
      popped in
      rw here record { at = Some x; is_open = less.0; remaining = less.1 }

  -- the last item of a path is one of the page
  pub unwinds_inside : (passed : List Bool) (lengths path left : List ℕ) (first x long : ℕ)
      → Unwinds passed lengths path first long → path ≡ left ++ x ∷ [] → x < length lengths
  unwinds_inside passed lengths path left first x long is popped =
      is.is_open.inside x (rw popped (contains-right left (x ∷ []) x (contains-first x [])))

  pub unwinds_chain : (passed : List Bool) (lengths path : List ℕ) (first long : ℕ)
      → Unwinds passed lengths path first long → path ≡ []
      → (long ≡ get_or lengths first 0) × (0 < long)
  unwinds_chain passed lengths path first long is over =
      let done : IsOpen passed lengths [] first is.at =
      subst (λ p. IsOpen passed lengths p first is.at) over is.is_open in
      subst (λ o. RemainingLength lengths o long) (sym done.steps) is.remaining
