-- Bad pages that are marked one after the other.
use Rattle.std.proofs.Common.{◌≡◌, ℕ, zero, suc, ◌+◌, ◌<◌, Bool, true, false, List, []}
use Rattle.std.proofs.Common.{◌∷◌, ◌++◌, take, drop, length, get_or, slice_set, refl, sym, ap}
use Rattle.std.proofs.Common.{◌∙◌, arith, if◌then◌else◌, cond}
use Rattle.std.specs.Prelude.{count_by}
use Rattle.std.proofs.lemmas.List.{take_all}
use Rattle.std.proofs.lemmas.List.Sums.{sum_by-cons}
use Rattle.page_check.specs.declared.rules.PageMark.{PageMark}
use Rattle.page_check.specs.declared.rules.PageMark.TheVariants.{Valid, Zeroed}
use Rattle.page_check.specs.SynchronousAnswer.{zero_page}
use Rattle.read_callbacks.specs.Chain.{is_bad, is_bad_block, with_blocks, page_if_bad}
use Rattle.read_callbacks.specs.Chain.{mark_if_bad, pages_for_bad, page_marked, is_marked}
use Rattle.read_callbacks.specs.Chain.{marks_for_bad, bad_among, all_valid}

-- how many are bad among one page more
count-more : (sums : Bool) (from : ℕ) (pages : List (List ℕ)) (n : ℕ) (d : List ℕ)
    → n < length pages
    → bad_among sums from (take (suc n) pages)
    ≡ bad_among sums from (take n pages) + cond (is_bad sums (from + n) (get_or pages n d)) 1 0
count-more sums from [] n d lt = absurd (omega arith)
count-more sums from (p ∷ ps) zero d lt =
    let here : from ≡ from + 0 = omega arith in
    ap (λ (k : ℕ). 0 + cond (is_bad sums k p) 1 0) here
count-more sums from (p ∷ ps) (suc n) d lt =
    let place : suc from + n ≡ from + suc n = omega arith in
    let rest = count-more sums (suc from) ps n d (omega arith) in
    let last : cond {A = ℕ} (is_bad sums (suc from + n) (get_or ps n d)) 1 0
    ≡ cond (is_bad sums (from + suc n) (get_or ps n d)) 1 0 =
    ap (λ (k : ℕ). cond {A = ℕ} (is_bad sums k (get_or ps n d)) 1 0) place in
    let test : ℕ × List ℕ → ℕ = λ x. cond (is_bad_block sums x) 1 0 in
    let one : bad_among sums from (take (suc (suc n)) (p ∷ ps))
    ≡ cond (is_bad sums from p) 1 0 + bad_among sums (suc from) (take (suc n) ps) =
    sum_by-cons test (from, p) (with_blocks (suc from) (take (suc n) ps)) in
    let other : bad_among sums from (take (suc n) (p ∷ ps))
    ≡ cond (is_bad sums from p) 1 0 + bad_among sums (suc from) (take n ps) =
    sum_by-cons test (from, p) (with_blocks (suc from) (take n ps)) in
    one
    ∙ ap (λ (k : ℕ). cond (is_bad sums from p) 1 0 + k) (rest ∙ ap (λ (k : ℕ). bad_among sums (suc from) (take n ps) + k) last)
    ∙ (let moved : cond {A = ℕ} (is_bad sums from p) 1 0 + (bad_among sums (suc from) (take n ps)
    + cond (is_bad sums (from + suc n) (get_or ps n d)) 1 0)
    ≡ (cond (is_bad sums from p) 1 0 + bad_among sums (suc from) (take n ps))
    + cond (is_bad sums (from + suc n) (get_or ps n d)) 1 0 = omega arith in moved)
    ∙ ap (λ (k : ℕ). k + cond (is_bad sums (from + suc n) (get_or ps n d)) 1 0) (sym other)

marked_by : (bad : Bool) (mark old : PageMark) → bad ≡ true → mark ≡ (if bad then mark else old)
marked_by true mark old e = refl
marked_by false mark old e = absurd (cc)

kept_by : (bad : Bool) (mark old : PageMark) → bad ≡ false → old ≡ (if bad then mark else old)
kept_by true mark old e = absurd (cc)
kept_by false mark old e = refl

one_marked : (bad : Bool) (mark : PageMark) → is_marked mark ≡ true
    → is_marked (if bad then mark else Valid) ≡ bad
one_marked true mark is = is
one_marked false mark is = refl

module _ (mark : PageMark) (sums : Bool) where
  abbrev pub front_pages : ℕ → ℕ → List (List ℕ) → List (List ℕ)
  front_pages from n pages = pages_for_bad mark sums from (take n pages) ++ drop n pages

  abbrev pub front_marks : ℕ → ℕ → List (List ℕ) → List PageMark → List PageMark
  front_marks from n pages marks =
      marks_for_bad mark sums from (take n pages) (take n marks) ++ drop n marks

  -- the first n of these pages were looked at: what stands there now, and how many were bad
  pub record IsDone (from : ℕ) (pages : List (List ℕ)) (marks : List PageMark) (n : ℕ)
      (now : List (List ℕ)) (now_marks : List PageMark) (count : ℕ) : Type 0 where
    pub held : now ≡ front_pages from n pages
    pub marked : now_marks ≡ front_marks from n pages marks
    pub counted : count ≡ bad_among sums from (take n pages)

  -- a page behind the first n is as it was
  page_behind : (from : ℕ) (pages : List (List ℕ)) (n : ℕ) (d : List ℕ) → n < length pages
      → get_or (front_pages from n pages) n d ≡ get_or pages n d
  page_behind from [] n d lt = absurd (omega arith)
  page_behind from (p ∷ ps) zero d lt = refl
  page_behind from (p ∷ ps) (suc n) d lt = page_behind (suc from) ps n d (omega arith)

  -- one page more
  pages_more : (from : ℕ) (pages : List (List ℕ)) (n block : ℕ) (d : List ℕ)
      → n < length pages → block ≡ from + n
      → slice_set (front_pages from n pages) n (page_if_bad mark sums (block, get_or pages n d))
      ≡ front_pages from (suc n) pages
  pages_more from [] n block d lt is = absurd (omega arith)
  pages_more from (p ∷ ps) zero block d lt is =
      let here : block ≡ from = omega arith in
      ap (λ (b : ℕ). page_if_bad mark sums (b, p) ∷ ps) here
  pages_more from (p ∷ ps) (suc n) block d lt is =
      ap (λ (l : List (List ℕ)). page_if_bad mark sums (from, p) ∷ l)
      (pages_more (suc from) ps n block d (omega arith) (omega arith))

  marks_more : (from : ℕ) (pages : List (List ℕ)) (marks : List PageMark) (n block : ℕ)
      (d : List ℕ) → n < length pages → length marks ≡ length pages → block ≡ from + n
      → is_bad sums block (get_or pages n d) ≡ true
      → slice_set (front_marks from n pages marks) n mark ≡ front_marks from (suc n) pages marks
  marks_more from [] marks n block d lt e is bad = absurd (omega arith)
  marks_more from (p ∷ ps) [] n block d lt e is bad = absurd (omega arith)
  marks_more from (p ∷ ps) (m ∷ ms) zero block d lt e is bad =
      let here : from ≡ block = omega arith in
      ap (λ (x : PageMark). x ∷ ms)
      (marked_by (is_bad sums from p) mark m (ap (λ (k : ℕ). is_bad sums k p) here ∙ bad))
  marks_more from (p ∷ ps) (m ∷ ms) (suc n) block d lt e is bad =
      ap (λ (l : List PageMark). mark_if_bad mark sums ((from, p), m) ∷ l)
      (marks_more (suc from) ps ms n block d (omega arith) (omega arith) (omega arith) bad)

  marks_kept : (from : ℕ) (pages : List (List ℕ)) (marks : List PageMark) (n block : ℕ)
      (d : List ℕ) → n < length pages → length marks ≡ length pages → block ≡ from + n
      → is_bad sums block (get_or pages n d) ≡ false
      → front_marks from n pages marks ≡ front_marks from (suc n) pages marks
  marks_kept from [] marks n block d lt e is good = absurd (omega arith)
  marks_kept from (p ∷ ps) [] n block d lt e is good = absurd (omega arith)
  marks_kept from (p ∷ ps) (m ∷ ms) zero block d lt e is good =
      let here : from ≡ block = omega arith in
      ap (λ (x : PageMark). x ∷ ms)
      (kept_by (is_bad sums from p) mark m (ap (λ (k : ℕ). is_bad sums k p) here ∙ good))
  marks_kept from (p ∷ ps) (m ∷ ms) (suc n) block d lt e is good =
      ap (λ (l : List PageMark). mark_if_bad mark sums ((from, p), m) ∷ l)
      (marks_kept (suc from) ps ms n block d (omega arith) (omega arith) (omega arith) good)

  -- nothing is done before the first page
  pub done_none : (from : ℕ) (pages : List (List ℕ)) (marks : List PageMark)
      → IsDone from pages marks 0 pages marks 0
  done_none from pages marks = record { held = refl; marked = refl; counted = refl }

  held_more : (from : ℕ) (pages : List (List ℕ)) (n : ℕ) (now : List (List ℕ))
      (page written : List ℕ) → n < length pages → page ≡ get_or pages n page
      → written ≡ page_if_bad mark sums (from + n, page) → now ≡ front_pages from n pages
      → slice_set now n written ≡ front_pages from (n + 1) pages
  held_more from pages n now page written lt at w held =
      let next : suc n ≡ n + 1 = omega arith in
      ap (λ (l : List (List ℕ)). slice_set l n written) held
      ∙ (ap (λ (x : List ℕ). slice_set (front_pages from n pages) n x)
      (w ∙ ap (λ (x : List ℕ). page_if_bad mark sums (from + n, x)) at)
      ∙ (pages_more from pages n (from + n) page lt refl
      ∙ ap (λ (k : ℕ). front_pages from k pages) next))

  -- the page at n is looked at
  pub done_bad : (from : ℕ) (pages : List (List ℕ)) (marks : List PageMark) (n : ℕ)
      (now : List (List ℕ)) (now_marks : List PageMark) (count : ℕ) (page written : List ℕ)
      → n < length pages → length marks ≡ length pages → page ≡ get_or now n page
      → written ≡ page_if_bad mark sums (from + n, page) → is_bad sums (from + n) page ≡ true
      → IsDone from pages marks n now now_marks count
      → IsDone from pages marks (n + 1) (slice_set now n written) (slice_set now_marks n mark)
      (count + 1)
  done_bad from pages marks n now now_marks count page written lt e is w bad h =
      let at : page ≡ get_or pages n page =
      is ∙ (ap (λ (l : List (List ℕ)). get_or l n page) h.held ∙ page_behind from pages n page lt) in
      let next : suc n ≡ n + 1 = omega arith in
      let there : is_bad sums (from + n) (get_or pages n page) ≡ true =
      sym (ap (is_bad sums (from + n)) at) ∙ bad in
      record {
        held = held_more from pages n now page written lt at w h.held;
        marked = ap (λ (l : List PageMark). slice_set l n mark) h.marked
            ∙ (marks_more from pages marks n (from + n) page lt e refl there
            ∙ ap (λ (k : ℕ). front_marks from k pages marks) next);
        counted = ap (λ (k : ℕ). k + 1) h.counted
            ∙ sym (count-more sums from pages n page lt
            ∙ ap (λ (b : Bool). bad_among sums from (take n pages) + cond b 1 0) there)
            ∙ ap (λ (k : ℕ). bad_among sums from (take k pages)) next;
      }

  pub done_good : (from : ℕ) (pages : List (List ℕ)) (marks : List PageMark) (n : ℕ)
      (now : List (List ℕ)) (now_marks : List PageMark) (count : ℕ) (page written : List ℕ)
      → n < length pages → length marks ≡ length pages → page ≡ get_or now n page
      → written ≡ page_if_bad mark sums (from + n, page) → is_bad sums (from + n) page ≡ false
      → IsDone from pages marks n now now_marks count
      → IsDone from pages marks (n + 1) (slice_set now n written) now_marks count
  done_good from pages marks n now now_marks count page written lt e is w good h =
      let at : page ≡ get_or pages n page =
      is ∙ (ap (λ (l : List (List ℕ)). get_or l n page) h.held ∙ page_behind from pages n page lt) in
      let next : suc n ≡ n + 1 = omega arith in
      let there : is_bad sums (from + n) (get_or pages n page) ≡ false =
      sym (ap (is_bad sums (from + n)) at) ∙ good in
      record {
        held = held_more from pages n now page written lt at w h.held;
        marked = h.marked
            ∙ (marks_kept from pages marks n (from + n) page lt e refl there
            ∙ ap (λ (k : ℕ). front_marks from k pages marks) next);
        counted = h.counted
            ∙ sym (count-more sums from pages n page lt
            ∙ ap (λ (b : Bool). bad_among sums from (take n pages) + cond b 1 0) there
            ∙ (let none : bad_among sums from (take n pages) + 0 ≡ bad_among sums from (take n pages) =
            omega arith in none))
            ∙ ap (λ (k : ℕ). bad_among sums from (take k pages)) next;
      }

  -- all of them
  pages_all : (from : ℕ) (pages : List (List ℕ)) (n : ℕ) → n ≡ length pages
      → front_pages from n pages ≡ pages_for_bad mark sums from pages
  pages_all from [] zero e = refl
  pages_all from [] (suc n) e = absurd (omega arith)
  pages_all from (p ∷ ps) zero e = absurd (omega arith)
  pages_all from (p ∷ ps) (suc n) e =
      ap (λ (l : List (List ℕ)). page_if_bad mark sums (from, p) ∷ l)
      (pages_all (suc from) ps n (omega arith))

  marks_all : (from : ℕ) (pages : List (List ℕ)) (marks : List PageMark) (n : ℕ)
      → n ≡ length pages → length marks ≡ length pages
      → front_marks from n pages marks ≡ marks_for_bad mark sums from pages marks
  marks_all from [] [] zero e f = refl
  marks_all from [] [] (suc n) e f = absurd (omega arith)
  marks_all from [] (m ∷ ms) n e f = absurd (omega arith)
  marks_all from (p ∷ ps) marks zero e f = absurd (omega arith)
  marks_all from (p ∷ ps) [] (suc n) e f = absurd (omega arith)
  marks_all from (p ∷ ps) (m ∷ ms) (suc n) e f =
      ap (λ (l : List PageMark). mark_if_bad mark sums ((from, p), m) ∷ l)
      (marks_all (suc from) ps ms n (omega arith) (omega arith))

  -- where none was marked before, as many are marked as are bad
  pub marked_count : is_marked mark ≡ true → (from : ℕ) (pages : List (List ℕ)) (n : ℕ)
      → count_by is_marked (take n (front_marks from n pages (all_valid (length pages))))
      ≡ bad_among sums from (take n pages)
  marked_count is from [] zero = refl
  marked_count is from [] (suc n) = refl
  marked_count is from (p ∷ ps) zero = refl
  marked_count is from (p ∷ ps) (suc n) =
      let marks : List PageMark = take n (front_marks (suc from) n ps (all_valid (length ps))) in
      let more = λ (b : Bool) (k : ℕ). cond b 1 0 + k in
      sum_by-cons (λ (m : PageMark). cond (is_marked m) 1 0)
      (mark_if_bad mark sums ((from, p), Valid)) marks
      ∙ (ap (λ (b : Bool). more b (count_by is_marked marks)) (one_marked (is_bad sums from p) mark is)
      ∙ (ap (more (is_bad sums from p)) (marked_count is (suc from) ps n)
      ∙ sym (sum_by-cons (λ (x : ℕ × List ℕ). cond (is_bad_block sums x) 1 0) (from, p)
      (with_blocks (suc from) (take n ps)))))

  pub record IsAllDone (from : ℕ) (pages : List (List ℕ)) (marks : List PageMark)
      (now : List (List ℕ)) (now_marks : List PageMark) (count : ℕ) : Type 0 where
    pub held : now ≡ pages_for_bad mark sums from pages
    pub marked : now_marks ≡ marks_for_bad mark sums from pages marks
    pub counted : count ≡ bad_among sums from pages

  pub done_all : (from : ℕ) (pages : List (List ℕ)) (marks : List PageMark) (n : ℕ)
      (now : List (List ℕ)) (now_marks : List PageMark) (count : ℕ) → n ≡ length pages
      → length marks ≡ length pages → IsDone from pages marks n now now_marks count
      → IsAllDone from pages marks now now_marks count
  done_all from pages marks n now now_marks count e f h = record {
    held = h.held ∙ pages_all from pages n e;
    marked = h.marked ∙ marks_all from pages marks n e f;
    counted = h.counted ∙ ap (bad_among sums from) (take_all n pages (omega arith));
  }

zeros_if_bad : (bad : Bool) (mark : PageMark) (page : List ℕ) → bad ≡ true → mark ≡ Zeroed
    → zero_page ≡ (if bad then page_marked mark page else page)
zeros_if_bad true mark page e zeroed = sym (ap (λ (m : PageMark). page_marked m page) zeroed)
zeros_if_bad false mark page e zeroed = absurd (cc)

-- zeros that are written over a bad page
pub written_over : (mark : PageMark) (sums : Bool) (block : ℕ) (page written : List ℕ)
    → mark ≡ Zeroed → is_bad sums block page ≡ true → written ≡ zero_page
    → written ≡ page_if_bad mark sums (block, page)
written_over mark sums block page written zeroed bad e =
    e ∙ zeros_if_bad (is_bad sums block page) mark page bad zeroed
