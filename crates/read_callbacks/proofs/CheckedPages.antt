-- What passed a callback that checks pages is marked or not bad.
use Rattle.std.proofs.Common.{◌≡◌, ℕ, zero, suc, ◌<◌, ◌≤◌, Bool, true, false, nat_lt, ◌==◌}
use Rattle.std.proofs.Common.{if◌then◌else◌, List, [], ◌∷◌, take, length, get_or, refl, sym, ap}
use Rattle.std.proofs.Common.{◌∙◌, arith, Option, Some, None, pos, ◌+◌, ◌≢◌}
use Rattle.std.specs.List.{list_any}
use Rattle.read_callbacks.proofs.BlocksOfPages.{first_bad-none, first_bad-some}
use Rattle.std.proofs.lemmas.List.{length-take, get_or-take}
use Rattle.aio_result.specs.declared.AioResult.{AioResult}
use Rattle.aio_result.specs.declared.Status.TheVariants.{Partial, Error}
use Rattle.read_callbacks.specs.declared.chain.Raw.{Raw}
use Rattle.read_callbacks.specs.declared.chain.Raw.TheVariants.{Read, Failed}
use Rattle.read_callbacks.specs.declared.chain.CallbackId.{CallbackId}
use Rattle.read_callbacks.specs.declared.chain.CallbackId.TheVariants.{File, Buffer, Count}
use Rattle.read_callbacks.specs.Chain.{result_of, natural_part, is_negative, is_error, is_bad}
use Rattle.read_callbacks.specs.Chain.{first_bad}
use Rattle.read_callbacks.specs.Chain.{stopped_at, raw_result, after_file, after_buffer, Outcome}
use Rattle.read_callbacks.specs.declared.chain.CallbackId.TheVariants.{ZeroBuffer, MarkBuffer}
use Rattle.read_callbacks.specs.Chain.{chain_result, has_check_behind_file, good_count, chain_start, after_marking}
use Rattle.read_callbacks.specs.Chain.{bad_among, marked_first, page_marked, is_check}
use Rattle.page_check.specs.declared.rules.PageMark.{PageMark}
use Rattle.page_check.specs.declared.rules.PageMark.TheVariants.{Valid, Zeroed, Damaged}
use Rattle.read_callbacks.proofs.ChainLowersResult.{chain_below, warned_same}
use Rattle.read_callbacks.proofs.ChainChangesPages.{matching_pages, begun_holds}
use Rattle.read_callbacks.proofs.BadPagesMarked.{front_pages, front_marks}

-- a callback that checks pages is among them
abbrev has_check : List CallbackId → Bool
has_check ids = list_any is_check ids

checked_has : (ids : List CallbackId) → has_check_behind_file ids ≡ true → has_check ids ≡ true
checked_has [] e = e
checked_has (Buffer ∷ ids) e = refl
checked_has (ZeroBuffer ∷ ids) e = refl
checked_has (MarkBuffer ∷ ids) e = refl
checked_has (File ∷ ids) e = checked_has ids e
checked_has (Count ∷ ids) e = checked_has ids e

module _ (mark : PageMark) (new : mark ≢ Valid) (sums : Bool) where
  not_bad_now : (block : ℕ) (bad : Bool) (old : PageMark) (page : List ℕ)
      → is_bad sums block page ≡ bad → (if bad then mark else old) ≡ Valid
      → is_bad sums block (if bad then page_marked mark page else page) ≡ false
  not_bad_now block true old page e valid = absurd (new valid)
  not_bad_now block false old page e valid = e

  -- a page among the first n that is not marked
  front_clean : (from : ℕ) (pages : List (List ℕ)) (marks : List PageMark) (n k block : ℕ)
      → n ≤ length pages → length marks ≡ length pages → k < n → block ≡ from + k
      → get_or (front_marks mark sums from n pages marks) k Valid ≡ Valid
      → is_bad sums block (get_or (front_pages mark sums from n pages) k []) ≡ false
  front_clean from pages marks zero k block le e lt is valid = absurd (omega arith)
  front_clean from [] marks (suc n) k block le e lt is valid = absurd (omega arith)
  front_clean from (p ∷ ps) [] (suc n) k block le e lt is valid = absurd (omega arith)
  front_clean from (p ∷ ps) (m ∷ ms) (suc n) zero block le e lt is valid =
      let here : from ≡ block = omega arith in
      ap (λ (b : ℕ). is_bad sums b (if is_bad sums from p then page_marked mark p else p)) (sym here)
      ∙ not_bad_now from (is_bad sums from p) m p refl valid
  front_clean from (p ∷ ps) (m ∷ ms) (suc n) (suc k) block le e lt is valid =
      front_clean (suc from) ps ms n k block (omega arith) (omega arith) (omega arith) (omega arith)
      valid

module _ (sums : Bool) (from : ℕ) where
  -- those of the first n pages that are not marked are not bad
  abbrev Clean : List PageMark → List (List ℕ) → ℕ → Type 0
  Clean marks pages n = (k : ℕ) → k < n → get_or marks k Valid ≡ Valid
      → is_bad sums (from + k) (get_or pages k []) ≡ false

  clean_none : (marks : List PageMark) (pages : List (List ℕ)) (n : ℕ) → n ≡ 0
      → Clean marks pages n
  clean_none marks pages n e k lt valid = absurd (omega arith)

  stopped_clean : (marks : List PageMark) (pages : List (List ℕ)) (p : AioResult) (n : ℕ)
      → n ≤ length pages
      → natural_part p.result ≡ n → (o : Option ℕ) → first_bad sums from (take n pages) ≡ o
      → Clean marks pages (natural_part (stopped_at p o).result)
  stopped_clean marks pages p n le is None e k lt valid =
      let l = length-take n pages in
      ap (is_bad sums (from + k)) (sym (get_or-take n pages k [] (omega arith)))
      ∙ first_bad-none sums from (take n pages) e k (omega arith)
  stopped_clean marks pages p n le is (Some i) e k lt valid =
      let s = first_bad-some sums from (take n pages) i e in
      let l = length-take n pages in
      ap (is_bad sums (from + k)) (sym (get_or-take n pages k [] (let x = s.within in omega arith)))
      ∙ s.before k lt

  -- an error, or a result that passed a check, tells such pages
  record Tells (marks : List PageMark) (pages : List (List ℕ)) (checked : Bool) (p : AioResult) : Type 0 where
    failed : is_error p.status ≡ true → Clean marks pages (natural_part p.result)
    passed : checked ≡ true → Clean marks pages (natural_part p.result)

  either_tells : (b : Bool) (marks : List PageMark) (pages : List (List ℕ)) (c : Bool) (x y : AioResult)
      → (b ≡ true → Tells marks pages c x) → (b ≡ false → Tells marks pages c y)
      → Tells marks pages c (if b then x else y)
  either_tells true marks pages c x y l r = l refl
  either_tells false marks pages c x y l r = r refl

  nothing_tells : (marks : List PageMark) (pages : List (List ℕ)) (c : Bool) (p : AioResult) → natural_part p.result ≡ 0
      → Tells marks pages c p
  nothing_tells marks pages c p e = record {
    failed = λ _. clean_none marks pages (natural_part p.result) e;
    passed = λ _. clean_none marks pages (natural_part p.result) e;
  }

  partial_tells : (marks : List PageMark) (pages : List (List ℕ)) (c : Bool) (p : AioResult) → Tells marks pages c p
      → Tells marks pages c (result_of 1 Partial 0 p.result)
  partial_tells marks pages c p t = record { failed = λ e. absurd (cc); passed = t.passed }

  file_tells : (count : ℕ) (marks : List PageMark) (pages : List (List ℕ)) (c : Bool) (p : AioResult) → Tells marks pages c p
      → Tells marks pages c (after_file count p)
  file_tells count marks pages c p t =
      either_tells (is_negative p.result) marks pages c (result_of 1 Error 1 (pos 0)) _
      (λ _. nothing_tells marks pages c (result_of 1 Error 1 (pos 0)) refl)
      (λ _. either_tells (natural_part p.result == 0) marks pages c (result_of 1 Error 2 (pos 0)) _
      (λ _. nothing_tells marks pages c (result_of 1 Error 2 (pos 0)) refl)
      (λ _. either_tells (nat_lt (natural_part p.result) count) marks pages c
      (result_of 1 Partial 0 p.result) p (λ _. partial_tells marks pages c p t) (λ _. t)))

  buffer_tells : (marks : List PageMark) (pages : List (List ℕ)) (c : Bool) (p : AioResult)
      → natural_part p.result ≤ length pages → Tells marks pages c p
      → Tells marks pages true (after_buffer sums from pages p)
  unfolding after_buffer
  buffer_tells marks pages c p le t =
      either_tells (is_error p.status) marks pages true p _
      (λ e. record { failed = t.failed; passed = λ _. t.failed e })
      (λ _.
      let s = stopped_clean marks pages p (natural_part p.result) le refl
      (first_bad sums from (take (natural_part p.result) pages)) refl in
      record { failed = λ _. s; passed = λ _. s })

  abbrev TellsOf : Bool → Outcome → Type 0
  TellsOf c o = Tells o.marks o.pages c o.result

  either_outcome_tells : (b : Bool) (c : Bool) (x y : Outcome) → (b ≡ true → TellsOf c x)
      → TellsOf c y → TellsOf c (if b then x else y)
  either_outcome_tells true c x y l r = l refl
  either_outcome_tells false c x y l r = r

  -- no more pages were read than there are, and each has a mark
  abbrev InRoom : Outcome → Type 0
  InRoom o =
      (natural_part o.result.result ≤ length o.pages) × (length o.marks ≡ length o.pages)

  marking_tells : (mark : PageMark) → mark ≢ Valid → (c : Bool) (o : Outcome) → InRoom o
      → TellsOf c o → TellsOf true (after_marking mark sums from o)
  unfolding after_marking
  marking_tells mark new c o room t =
      let n : ℕ = natural_part o.result.result in
      let marked : Outcome = marked_first mark sums from n o in
      let same : natural_part marked.result.result ≡ n =
      ap natural_part (warned_same mark (bad_among sums from (take n o.pages)) o.result) in
      let clean : Clean marked.marks marked.pages (natural_part marked.result.result) =
      λ k lt valid. front_clean mark new sums from o.pages o.marks n k (from + k) room.0 room.1
      (omega arith) refl valid in
      either_outcome_tells (is_error o.result.status) true o marked
      (λ e. record { failed = t.failed; passed = λ _. t.failed e })
      (record { failed = λ _. clean; passed = λ _. clean })

  in_room : (count : ℕ) (ids : List CallbackId) (raw : Raw) (pages : List (List ℕ))
      → natural_part (raw_result raw).result ≤ length pages
      → InRoom (chain_result sums from count ids (chain_start raw pages))
  in_room count ids raw pages le =
      let o = chain_result sums from count ids (chain_start raw pages) in
      let b = chain_below sums from count ids (chain_start raw pages) in
      let (l, m) = matching_pages sums from o.marks pages o.pages
      (begun_holds sums from count ids raw pages) in
      (omega arith, omega arith)

  chain_tells : (count : ℕ) (ids : List CallbackId) (raw : Raw) (pages : List (List ℕ))
      → natural_part (raw_result raw).result ≤ length pages
      → TellsOf (has_check ids) (chain_result sums from count ids (chain_start raw pages))
  chain_tells count [] (Read n) pages le =
      record { failed = λ e. absurd (cc); passed = λ e. absurd (cc) }
  chain_tells count [] Failed pages le =
      record { failed = λ e. absurd (cc); passed = λ e. absurd (cc) }
  chain_tells count (File ∷ ids) raw pages le =
      let o = chain_result sums from count ids (chain_start raw pages) in
      file_tells count o.marks o.pages (has_check ids) o.result (chain_tells count ids raw pages le)
  chain_tells count (Buffer ∷ ids) raw pages le =
      let o = chain_result sums from count ids (chain_start raw pages) in
      buffer_tells o.marks o.pages (has_check ids) o.result (in_room count ids raw pages le).0
      (chain_tells count ids raw pages le)
  chain_tells count (ZeroBuffer ∷ ids) raw pages le =
      marking_tells Zeroed (λ e. absurd (cc)) (has_check ids)
      (chain_result sums from count ids (chain_start raw pages)) (in_room count ids raw pages le)
      (chain_tells count ids raw pages le)
  chain_tells count (MarkBuffer ∷ ids) raw pages le =
      marking_tells Damaged (λ e. absurd (cc)) (has_check ids)
      (chain_result sums from count ids (chain_start raw pages)) (in_room count ids raw pages le)
      (chain_tells count ids raw pages le)
  chain_tells count (Count ∷ ids) raw pages le = chain_tells count ids raw pages le

  good_by : (c : Bool) (marks : List PageMark) (pages : List (List ℕ)) (p : AioResult)
      → (c ≡ true → Clean marks pages (natural_part p.result))
      → Clean marks pages (if c then natural_part p.result else 0)
  good_by true marks pages p f = f refl
  good_by false marks pages p f = clean_none marks pages 0 refl

  -- the good pages that are not marked are not bad
  pub good_clean : (count : ℕ) (ids : List CallbackId) (raw : Raw) (pages : List (List ℕ))
      → natural_part (raw_result raw).result ≤ length pages
      → Clean (chain_result sums from count ids (chain_start raw pages)).marks
      (chain_result sums from count ids (chain_start raw pages)).pages
      (good_count ids (chain_result sums from count ids (chain_start raw pages)).result)
  good_clean count ids raw pages le =
      let o = chain_result sums from count ids (chain_start raw pages) in
      good_by (has_check_behind_file ids) o.marks o.pages o.result
      (λ e. (chain_tells count ids raw pages le).passed (checked_has ids e))
