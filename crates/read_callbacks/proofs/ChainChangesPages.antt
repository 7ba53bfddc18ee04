-- What a chain of callbacks changes: a bad page is marked, and becomes zeros or stays.
use Rattle.std.proofs.Common.{◌≡◌, ℕ, zero, suc, ◌<◌, Bool, true, false, List, []}
use Rattle.std.proofs.Common.{◌∷◌, length, get_or, refl, sym, ap, subst, ◌+◌}
use Rattle.std.proofs.Common.{◌∙◌, arith, if◌then◌else◌}
use Rattle.page_check.specs.Checksum.{verdict_as}
use Rattle.page_check.specs.declared.verdict.Verdict.{Verdict}
use Rattle.page_check.specs.declared.verdict.Verdict.TheVariants.{Zero, Sane, Bad}
use Rattle.page_check.specs.SynchronousAnswer.{zero_page}
use Rattle.page_check.specs.declared.rules.PageMark.{PageMark}
use Rattle.page_check.specs.declared.rules.PageMark.TheVariants.{Valid, Zeroed, Damaged}
use Rattle.page_check.proofs.VerifiedPages.{zero_page_valid_as}
use Rattle.read_callbacks.specs.declared.chain.Raw.{Raw}
use Rattle.read_callbacks.specs.declared.chain.CallbackId.{CallbackId}
use Rattle.read_callbacks.specs.declared.chain.CallbackId.TheVariants.{File, Buffer, Count}
use Rattle.read_callbacks.specs.declared.chain.CallbackId.TheVariants.{ZeroBuffer, MarkBuffer}
use Rattle.read_callbacks.specs.Chain.{is_bad, is_bad_verdict, is_error, natural_part, page_marked}
use Rattle.read_callbacks.specs.Chain.{page_if_bad, mark_if_bad, all_valid, chain_start, Outcome}
use Rattle.read_callbacks.specs.Chain.{marked_first, after_marking, after_callback, chain_result}
use Rattle.read_callbacks.proofs.BadPagesMarked.{front_pages, front_marks}

not_bad_verdict : (v : Verdict) → (v ≡ Bad → ⊥) → is_bad_verdict v ≡ false
not_bad_verdict Zero valid = refl
not_bad_verdict Sane valid = refl
not_bad_verdict Bad valid = absurd (valid refl)

-- zeros are not bad
zeros_not_bad : (sums : Bool) (block : ℕ) → is_bad sums block zero_page ≡ false
zeros_not_bad sums block =
    not_bad_verdict (verdict_as sums block zero_page) (zero_page_valid_as sums block)

-- what is held under this mark in place of a page that was read
abbrev pub PageMatchesMark : Bool → ℕ → PageMark → List ℕ → List ℕ → Type 0
PageMatchesMark sums block Valid read page = page ≡ read
PageMatchesMark sums block Zeroed read page = (page ≡ zero_page) × (is_bad sums block read ≡ true)
PageMatchesMark sums block Damaged read page = (page ≡ read) × (is_bad sums block read ≡ true)

-- page by page
abbrev pub AllMatchMarks : Bool → ℕ → List PageMark → List (List ℕ) → List (List ℕ) → Type 0
AllMatchMarks sums from [] [] [] = Unit {0}
AllMatchMarks sums from [] [] (p ∷ ps) = ⊥
AllMatchMarks sums from [] (r ∷ rs) ps = ⊥
AllMatchMarks sums from (m ∷ ms) [] ps = ⊥
AllMatchMarks sums from (m ∷ ms) (r ∷ rs) [] = ⊥
AllMatchMarks sums from (m ∷ ms) (r ∷ rs) (p ∷ ps) =
    PageMatchesMark sums from m r p × AllMatchMarks sums (suc from) ms rs ps

-- before any callback
pub all_read : (sums : Bool) (from : ℕ) (pages : List (List ℕ))
    → AllMatchMarks sums from (all_valid (length pages)) pages pages
all_read sums from [] = tt
all_read sums from (p ∷ ps) = (refl, all_read sums (suc from) ps)

-- a page that is bad now is the one that was read
bad_as_read : (sums : Bool) (block : ℕ) (mark : PageMark) (read page : List ℕ)
    → is_bad sums block page ≡ true → PageMatchesMark sums block mark read page → page ≡ read
bad_as_read sums block Valid read page e h = h
bad_as_read sums block Zeroed read page e h =
    let both : true ≡ false = sym e ∙ ap (is_bad sums block) h.0 ∙ zeros_not_bad sums block in
    absurd (cc)
bad_as_read sums block Damaged read page e h = h.0

match_marked : (sums : Bool) (block : ℕ) (mark : PageMark) (read page : List ℕ)
    → is_bad sums block read ≡ true → page ≡ read
    → PageMatchesMark sums block mark read (page_marked mark page)
match_marked sums block Valid read page e h = h
match_marked sums block Zeroed read page e h = (refl, e)
match_marked sums block Damaged read page e h = (h, e)

match_if_bad : (mark old : PageMark) (sums : Bool) (block : ℕ) (bad : Bool) (read page : List ℕ)
    → is_bad sums block page ≡ bad → PageMatchesMark sums block old read page
    → PageMatchesMark sums block (if bad then mark else old) read
    (if bad then page_marked mark page else page)
match_if_bad mark old sums block true read page e h =
    let same = bad_as_read sums block old read page e h in
    match_marked sums block mark read page (sym (ap (is_bad sums block) same) ∙ e) same
match_if_bad mark old sums block false read page e h = h

match_after_marking : (mark old : PageMark) (sums : Bool) (block : ℕ) (read page : List ℕ)
    → PageMatchesMark sums block old read page
    → PageMatchesMark sums block (mark_if_bad mark sums ((block, page), old)) read
    (page_if_bad mark sums (block, page))
match_after_marking mark old sums block read page h =
    match_if_bad mark old sums block (is_bad sums block page) read page refl h

-- the bad ones among the first n are marked
front_matches : (mark : PageMark) (sums : Bool) (from n : ℕ) (ms : List PageMark)
    (rs ps : List (List ℕ)) → AllMatchMarks sums from ms rs ps
    → AllMatchMarks sums from (front_marks mark sums from n ps ms) rs
    (front_pages mark sums from n ps)
front_matches mark sums from zero ms rs ps h = h
front_matches mark sums from (suc n) [] [] [] h = tt
front_matches mark sums from (suc n) [] [] (p ∷ ps) h = absurd h
front_matches mark sums from (suc n) [] (r ∷ rs) ps h = absurd h
front_matches mark sums from (suc n) (m ∷ ms) [] ps h = absurd h
front_matches mark sums from (suc n) (m ∷ ms) (r ∷ rs) [] h = absurd h
front_matches mark sums from (suc n) (m ∷ ms) (r ∷ rs) (p ∷ ps) h =
    (match_after_marking mark m sums from r p h.0, front_matches mark sums (suc from) n ms rs ps h.1)

abbrev pub Holds : Bool → ℕ → List (List ℕ) → Outcome → Type 0
Holds sums from read o = AllMatchMarks sums from o.marks read o.pages

either_holds : (sums : Bool) (from : ℕ) (b : Bool) (read : List (List ℕ)) (x y : Outcome)
    → Holds sums from read x → Holds sums from read y → Holds sums from read (if b then x else y)
either_holds sums from true read x y l r = l
either_holds sums from false read x y l r = r

marking_holds : (mark : PageMark) (sums : Bool) (from : ℕ) (read : List (List ℕ)) (o : Outcome)
    → Holds sums from read o → Holds sums from read (after_marking mark sums from o)
unfolding after_marking
marking_holds mark sums from read o h =
    either_holds sums from (is_error o.result.status) read o
    (marked_first mark sums from (natural_part o.result.result) o) h
    (front_matches mark sums from (natural_part o.result.result) o.marks read o.pages h)

callback_holds : (sums : Bool) (from count : ℕ) (id : CallbackId) (read : List (List ℕ))
    (o : Outcome) → Holds sums from read o
    → Holds sums from read (after_callback sums from count id o)
callback_holds sums from count File read o h = h
callback_holds sums from count Buffer read o h = h
callback_holds sums from count Count read o h = h
callback_holds sums from count ZeroBuffer read o h = marking_holds Zeroed sums from read o h
callback_holds sums from count MarkBuffer read o h = marking_holds Damaged sums from read o h

pub chain_holds : (sums : Bool) (from count : ℕ) (ids : List CallbackId) (read : List (List ℕ))
    (o : Outcome) → Holds sums from read o
    → Holds sums from read (chain_result sums from count ids o)
chain_holds sums from count [] read o h = h
chain_holds sums from count (id ∷ ids) read o h =
    callback_holds sums from count id read (chain_result sums from count ids o)
    (chain_holds sums from count ids read o h)

-- of an answer and the pages that were read
pub begun_holds : (sums : Bool) (from count : ℕ) (ids : List CallbackId) (answer : Raw)
    (read : List (List ℕ))
    → Holds sums from read (chain_result sums from count ids (chain_start answer read))
begun_holds sums from count ids answer read =
    chain_holds sums from count ids read (chain_start answer read) (all_read sums from read)

-- there are as many pages and marks as before
pub matching_pages : (sums : Bool) (from : ℕ) (ms : List PageMark) (rs ps : List (List ℕ))
    → AllMatchMarks sums from ms rs ps
    → (length ps ≡ length rs) × (length ms ≡ length rs)
matching_pages sums from [] [] [] h = (refl, refl)
matching_pages sums from [] [] (p ∷ ps) h = absurd h
matching_pages sums from [] (r ∷ rs) ps h = absurd h
matching_pages sums from (m ∷ ms) [] ps h = absurd h
matching_pages sums from (m ∷ ms) (r ∷ rs) [] h = absurd h
matching_pages sums from (m ∷ ms) (r ∷ rs) (p ∷ ps) h =
    let (e, f) = matching_pages sums (suc from) ms rs ps h.1 in (omega arith, omega arith)

pub match_at : (sums : Bool) (from : ℕ) (ms : List PageMark) (rs ps : List (List ℕ)) (i block : ℕ)
    → i < length rs → block ≡ from + i → AllMatchMarks sums from ms rs ps
    → PageMatchesMark sums block (get_or ms i Valid) (get_or rs i []) (get_or ps i [])
match_at sums from [] [] [] i block lt is h = absurd (omega arith)
match_at sums from [] [] (p ∷ ps) i block lt is h = absurd h
match_at sums from [] (r ∷ rs) ps i block lt is h = absurd h
match_at sums from (m ∷ ms) [] ps i block lt is h = absurd h
match_at sums from (m ∷ ms) (r ∷ rs) [] i block lt is h = absurd h
match_at sums from (m ∷ ms) (r ∷ rs) (p ∷ ps) zero block lt is h =
    let here : from ≡ block = omega arith in
    subst (λ (b : ℕ). PageMatchesMark sums b m r p) here h.0
match_at sums from (m ∷ ms) (r ∷ rs) (p ∷ ps) (suc i) block lt is h =
    match_at sums (suc from) ms rs ps i block (omega arith) (omega arith) h.1
