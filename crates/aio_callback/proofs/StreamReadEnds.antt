-- The six ways in which a record with the callbacks of a stream ends.
use Rattle.std.proofs.Common.{◌≡◌, ◌≢◌, ℕ, ◌+◌, ◌<◌, ◌≤◌, ◌⊎◌, inl, inr, Bool, true, false, length}
use Rattle.std.proofs.Common.{cond, ◌==◌, nat_lt, List, [], take, get_or, refl, sym, zero, suc}
use Rattle.std.proofs.Common.{ap, ◌∙◌, subst, arith, Option, Some, None, pos, if◌then◌else◌}
use Rattle.std.specs.Prelude.{IfSome, count_by}
use Rattle.std.proofs.Math.Logic.{⊎_elim}
use Rattle.std.proofs.Math.Nat.{eq-or-lt_of_le}
use Rattle.std.proofs.lemmas.List.{length-take, get_or-take}
use Rattle.read_callbacks.proofs.BlocksOfPages.{first_bad-some}
use Rattle.std.proofs.lemmas.Bool.Decides.{nat_tests}
use Rattle.page_check.specs.Told.{Told, relation_block_count}
use Rattle.page_check.specs.declared.rules.DamagedPages.{DamagedPages}
use Rattle.page_check.specs.declared.rules.DamagedPages.TheVariants.{Refuse, Zero, Give}
use Rattle.page_check.specs.declared.rules.PageMark.{PageMark}
use Rattle.page_check.specs.declared.rules.PageMark.TheVariants.{Zeroed, Damaged}
use Rattle.aio_disk.specs.Disk.{ReadsPages}
use Rattle.aio_result.specs.declared.Status.{Status}
use Rattle.aio_result.specs.declared.Status.TheVariants.{Good, Partial, Warning, Error}
use Rattle.aio_result.specs.declared.AioResult.{AioResult}
use Rattle.aio_word.specs.declared.Class.TheVariants as class
use Rattle.read_callbacks.specs.declared.chain.Raw.{Raw}
use Rattle.read_callbacks.specs.declared.chain.Raw.TheVariants.{Read, Failed}
use Rattle.read_callbacks.specs.declared.chain.CallbackId.{CallbackId}
use Rattle.read_callbacks.specs.Chain.{result_of, is_bad, first_bad, stopped_at, is_error, is_marked}
use Rattle.read_callbacks.specs.Chain.{raw_result, class_of, bad_among, marking_id, marked_first}
use Rattle.read_callbacks.specs.Chain.{after_file, after_buffer, after_callback, after_marking}
use Rattle.read_callbacks.specs.Chain.{chain_result, outcome_of, good_count, Outcome, chain_start}
use Rattle.read_callbacks.specs.Chain.{all_valid, with_warning}
use Rattle.read_callbacks.specs.GoodPages.{HasBadPage}
use Rattle.aio_callback.specs.ReadIoView.{ReadIoView, IsToldRead, ReadFits, IsCompletedRead}
use Rattle.aio_callback.specs.ReadIoView.{number_of_id}
use Rattle.aio_callback.specs.StreamOutcomes.{stream_ids, IsStreamOutcome, Whole, Rest, Warned, Invalid}
use Rattle.aio_callback.specs.StreamOutcomes.{Unread, PastEnd, given_count, marked_among, check_of}
use Rattle.aio_callback.proofs.AnswerCompletes.{contents_bad, told_at}
use Rattle.read_callbacks.proofs.BadPagesMarked.{marked_count}

not_below : (a b : ℕ) → (a < b → ⊥) → b ≤ a
not_below a b absent = omega arith

nothing_read : (told : Option Told) (relation first : ℕ) (pages : List (List ℕ))
    → IfSome told (λ t. ReadsPages t relation first 0 pages)
    → IfSome told (λ t. relation_block_count t relation ≤ first)
nothing_read None relation first pages h = h
nothing_read (Some t) relation first pages h =
    not_below first (relation_block_count t relation)
    (λ lt. let z = h.some lt in absurd (omega arith))

-- the block of a page that was read and is bad
bad_block : (sums : Bool) (told : Option Told) (relation first n i : ℕ) (pages : List (List ℕ))
    → i < n → IfSome told (λ t. ReadsPages t relation first n pages)
    → is_bad sums (first + i) (get_or (take n pages) i []) ≡ true
    → HasBadPage told sums relation (first + i)
bad_block sums told relation first n i pages lt h e =
    contents_bad sums told relation (first + i) (get_or pages i [])
    (sym (ap (is_bad sums (first + i)) (get_or-take n pages i [] lt)) ∙ e)
    (told_at told relation first n i pages lt h)

-- the first bad page is one of those that were read
bad_within : (sums : Bool) (first n i : ℕ) (pages : List (List ℕ))
    → first_bad sums first (take n pages) ≡ Some i
    → (i < n) × (is_bad sums (first + i) (get_or (take n pages) i []) ≡ true)
bad_within sums first n i pages e =
    let s = first_bad-some sums first (take n pages) i e in
    let l = length-take n pages in
    let b = s.within in (omega arith, s.bad)

file_some : (count n : ℕ) → 0 < n → after_file count (raw_result (Read n))
    ≡ (if nat_lt n count then result_of 1 Partial 0 (pos n) else result_of 0 Good 0 (pos n))
file_some count n some =
    let e : (n == 0) ≡ false = grind (arith, nat_tests) in
    ap (λ (b : Bool). if b then result_of 1 Error 2 (pos 0)
    else (if nat_lt n count then result_of 1 Partial 0 (pos n) else result_of 0 Good 0 (pos n))) e

file_part : (count n : ℕ) → 0 < n → n < count
    → after_file count (raw_result (Read n)) ≡ result_of 1 Partial 0 (pos n)
file_part count n some less =
    let e : nat_lt n count ≡ true = grind (arith, nat_tests) in
    file_some count n some
    ∙ ap (λ (b : Bool). if b then result_of 1 Partial 0 (pos n) else result_of 0 Good 0 (pos n)) e

file_whole : (count : ℕ) → 0 < count
    → after_file count (raw_result (Read count)) ≡ result_of 0 Good 0 (pos count)
file_whole count some =
    let e : nat_lt count count ≡ false = grind (arith, nat_tests) in
    file_some count count some
    ∙ ap (λ (b : Bool). if b then result_of 1 Partial 0 (pos count)
    else result_of 0 Good 0 (pos count)) e

class_part : (count n : ℕ) → n < count → class_of count (Read n) ≡ class.Short
class_part count n less =
    let e : (n == count) ≡ false = grind (arith, nat_tests) in
    ap (λ (b : Bool). cond b class.Whole class.Short) e

class_whole : (count : ℕ) → class_of count (Read count) ≡ class.Whole
class_whole count =
    let e : (count == count) ≡ true = grind (arith, nat_tests) in
    ap (λ (b : Bool). cond b class.Whole class.Short) e

of_three : (n count : ℕ) → n ≤ count → (n ≡ 0) ⊎ (((0 < n) × (n < count)) ⊎ (n ≡ count))
of_three n count le = ⊎_elim
    (λ e. inl (sym e))
    (λ some. inr (⊎_elim (λ e. inr e) (λ less. inl (some, less)) (eq-or-lt_of_le le)))
    (eq-or-lt_of_le {n = 0} {m = n} (omega arith))

-- what a record holds that has ended
abbrev pub held : ReadIoView → Outcome
held r = outcome_of r.result r.pages r.marks

-- what the callback that checks pages makes of these and a result
abbrev pub checked : ReadIoView → DamagedPages → List (List ℕ) → AioResult → Outcome
checked r damaged pages p = after_callback r.checksums r.first r.count (check_of damaged)
    (outcome_of p pages (all_valid (length pages)))

-- and what the callbacks of a stream make of an answer
abbrev pub of_stream : ReadIoView → DamagedPages → List (List ℕ) → Raw → Outcome
of_stream r damaged pages answer =
    checked r damaged pages (after_file r.count (raw_result answer))

error_stays : (r : ReadIoView) (damaged : DamagedPages) (pages : List (List ℕ)) (error : ℕ)
    → (checked r damaged pages (result_of 1 Error error (pos 0))).result
    ≡ result_of 1 Error error (pos 0)
unfolding after_buffer after_marking
error_stays r Refuse pages error = refl
error_stays r Zero pages error = refl
error_stays r Give pages error = refl

module _ (told : Option Told) (r : ReadIoView) where
  -- some pages were read and one is bad
  stopped : (n i : ℕ) (pages : List (List ℕ)) → n ≤ r.count
      → IfSome told (λ t. ReadsPages t r.relation r.first n pages)
      → first_bad r.checksums r.first (take n pages) ≡ Some i
      → r.result ≡ result_of 2 Error i (pos i) → IsStreamOutcome Refuse told r
  stopped n i pages le h e is =
      let b = bad_within r.checksums r.first n i pages e in
      let lt = b.0 in
      Invalid i refl is (omega arith)
      (bad_block r.checksums told r.relation r.first n i pages lt h b.1)

  -- of the first bad page
  of_first : (n : ℕ) (pages : List (List ℕ)) (p : AioResult) → n ≤ r.count
      → IfSome told (λ t. ReadsPages t r.relation r.first n pages)
      → (r.result ≡ p → IsStreamOutcome Refuse told r) → (o : Option ℕ)
      → first_bad r.checksums r.first (take n pages) ≡ o
      → r.result ≡ stopped_at p o → IsStreamOutcome Refuse told r
  of_first n pages p le h good None e is = good is
  of_first n pages p le h good (Some i) e is = stopped n i pages le h e is

  module _ (damaged : DamagedPages) (n : ℕ) (some : 0 < n) (le : n ≤ r.count)
      (ended : r.label.ended ≡ class_of r.count (Read n)) where
    -- of the number of bad pages that are marked
    of_bad : (mark : PageMark) (id : ℕ) (status : Status) → damaged ≢ Refuse
        → marking_id mark ≡ number_of_id (check_of damaged)
        → (r.result ≡ result_of id status 0 (pos n) → IsStreamOutcome damaged told r) → (k : ℕ)
        → k ≡ marked_among r n → r.result ≡ with_warning mark k (result_of id status 0 (pos n))
        → IsStreamOutcome damaged told r
    of_bad mark id status on same good zero marked is = good is
    of_bad mark id status on same good (suc k) marked is =
        Warned (suc k) n on (omega arith) marked
        (is ∙ ap (λ (z : ℕ). result_of z Warning (suc k) (pos n)) same) some le ended

    of_marked : (mark : PageMark) (id : ℕ) (status : Status) (pages : List (List ℕ))
        → damaged ≢ Refuse → is_marked mark ≡ true
        → marking_id mark ≡ number_of_id (check_of damaged)
        → (r.result ≡ result_of id status 0 (pos n) → IsStreamOutcome damaged told r)
        → held r ≡ marked_first mark r.checksums r.first n
        (outcome_of (result_of id status 0 (pos n)) pages (all_valid (length pages)))
        → IsStreamOutcome damaged told r
    of_marked mark id status pages on marks same good is =
        of_bad mark id status on same good (bad_among r.checksums r.first (take n pages))
        (sym (ap (λ (o : Outcome). count_by is_marked (take n o.marks)) is
        ∙ marked_count mark r.checksums marks r.first pages n))
        (ap (λ (o : Outcome). o.result) is)

  no_error : (b : Bool) (x y : Outcome) → b ≡ false → (if b then x else y) ≡ y
  no_error true x y e = absurd (cc)
  no_error false x y e = refl

  -- what an owner makes of it where no page is bad, and where n pages were read
  of_looked : (damaged : DamagedPages) (n id : ℕ) (status : Status) (pages : List (List ℕ))
      → is_error status ≡ false → 0 < n → n ≤ r.count
      → IfSome told (λ t. ReadsPages t r.relation r.first n pages)
      → r.label.ended ≡ class_of r.count (Read n)
      → (r.result ≡ result_of id status 0 (pos n) → IsStreamOutcome damaged told r)
      → held r ≡ checked r damaged pages (result_of id status 0 (pos n))
      → IsStreamOutcome damaged told r
  unfolding after_buffer after_marking
  of_looked Refuse n id status pages fine some le h ended good is =
      let p : AioResult = result_of id status 0 (pos n) in
      let first : Option ℕ = first_bad r.checksums r.first (take n pages) in
      of_first n pages p le h good first refl
      (ap (λ (o : Outcome). o.result) is
      ∙ ap (λ (b : Bool). if b then p else stopped_at p first) fine)
  of_looked Zero n id status pages fine some le h ended good is =
      of_marked Zero n some le ended Zeroed id status pages (λ e. absurd (cc)) refl refl good
      (is ∙ no_error (is_error status) _ _ fine)
  of_looked Give n id status pages fine some le h ended good is =
      of_marked Give n some le ended Damaged id status pages (λ e. absurd (cc)) refl refl good
      (is ∙ no_error (is_error status) _ _ fine)

  part : (damaged : DamagedPages) (n : ℕ) (pages : List (List ℕ)) → 0 < n → n < r.count
      → IfSome told (λ t. ReadsPages t r.relation r.first n pages)
      → r.label.ended ≡ class_of r.count (Read n) → held r ≡ of_stream r damaged pages (Read n)
      → IsStreamOutcome damaged told r
  part damaged n pages some less h ended is =
      of_looked damaged n 1 Partial pages refl some (omega arith) h ended
      (λ e. Rest n e some less (ended ∙ class_part r.count n less))
      (is ∙ ap (checked r damaged pages) (file_part r.count n some less))

  whole : (damaged : DamagedPages) (pages : List (List ℕ)) → 0 < r.count
      → IfSome told (λ t. ReadsPages t r.relation r.first r.count pages)
      → r.label.ended ≡ class_of r.count (Read r.count)
      → held r ≡ of_stream r damaged pages (Read r.count) → IsStreamOutcome damaged told r
  whole damaged pages some h ended is =
      of_looked damaged r.count 0 Good pages refl some (omega arith) h ended
      (λ e. Whole e (ended ∙ class_whole r.count))
      (is ∙ ap (checked r damaged pages) (file_whole r.count some))

  after_read : (damaged : DamagedPages) (n : ℕ) (pages : List (List ℕ)) → 0 < r.count
      → IfSome told (λ t. ReadsPages t r.relation r.first n pages)
      → held r ≡ of_stream r damaged pages (Read n) → r.label.ended ≡ class_of r.count (Read n)
      → (n ≡ 0) ⊎ (((0 < n) × (n < r.count)) ⊎ (n ≡ r.count)) → IsStreamOutcome damaged told r
  after_read damaged n pages some h is ended (inl z) =
      PastEnd
      (ap (λ (o : Outcome). o.result) (is ∙ ap (λ (k : ℕ). of_stream r damaged pages (Read k)) z)
      ∙ error_stays r damaged pages 2)
      (ended ∙ class_part r.count n (omega arith))
      (nothing_read told r.relation r.first pages
      (subst (λ (k : ℕ). IfSome told (λ t. ReadsPages t r.relation r.first k pages)) z h))
  after_read damaged n pages some h is ended (inr (inl p)) =
      part damaged n pages p.0 p.1 h ended is
  after_read damaged n pages some h is ended (inr (inr e)) =
      whole damaged pages some
      (subst (λ (k : ℕ). IfSome told (λ t. ReadsPages t r.relation r.first k pages)) e h)
      (ended ∙ ap (λ (k : ℕ). class_of r.count (Read k)) e)
      (is ∙ ap (λ (k : ℕ). of_stream r damaged pages (Read k)) e)

  after_answer : (damaged : DamagedPages) (answer : Raw) (pages : List (List ℕ)) → 0 < r.count
      → IsToldRead told r answer pages → held r ≡ of_stream r damaged pages answer
      → r.label.ended ≡ class_of r.count answer → IsStreamOutcome damaged told r
  after_answer damaged Failed pages some h is ended =
      Unread (ap (λ (o : Outcome). o.result) is ∙ error_stays r damaged pages 1) ended
  after_answer damaged (Read n) pages some h is ended =
      after_read damaged n pages some h.1 is ended (of_three n r.count h.0)

  -- what a record with the callbacks of a stream holds
  pub held_by_stream : (damaged : DamagedPages) (c : IsCompletedRead told r)
      → r.ids ≡ stream_ids damaged → held r ≡ of_stream r damaged c.read c.answer
  held_by_stream damaged c ids =
      c.outcome
      ∙ ap (λ (l : List CallbackId). chain_result r.checksums r.first r.count l
      (chain_start c.answer c.read)) ids

  pub six_ways : (relations : ℕ) (damaged : DamagedPages) → ReadFits told relations r
      → r.label.ended ≢ class.Unended → r.ids ≡ stream_ids damaged
      → IsStreamOutcome damaged told r
  six_ways relations damaged f ended ids =
      let c = f.ended ended in
      after_answer damaged c.answer c.read f.some c.told_read (held_by_stream damaged c ids) c.class

given_by : (damaged : DamagedPages) (p : AioResult)
    → good_count (stream_ids damaged) p ≡ given_count p
given_by Refuse p = refl
given_by Zero p = refl
given_by Give p = refl

pub all_given : (r : ReadIoView) (damaged : DamagedPages) → r.ids ≡ stream_ids damaged
    → good_count r.ids r.result ≡ given_count r.result
all_given r damaged ids =
    ap (λ (l : List CallbackId). good_count l r.result) ids ∙ given_by damaged r.result
