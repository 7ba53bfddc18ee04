-- A chain of callbacks never raises the number of its result.
use Rattle.std.proofs.Common.{◌≡◌, ℕ, zero, suc, ap, subst, ◌≤◌, Bool, true, false, nat_lt, ◌==◌}
use Rattle.std.proofs.Common.{if◌then◌else◌, List, [], ◌∷◌, take, le_refl, refl, arith, Option}
use Rattle.std.proofs.Common.{Some, None, pos}
use Rattle.read_callbacks.proofs.BlocksOfPages.{first_bad-some}
use Rattle.std.proofs.lemmas.List.{length-take}
use Rattle.aio_result.specs.declared.AioResult.{AioResult}
use Rattle.aio_result.specs.declared.Status.TheVariants.{Partial, Error}
use Rattle.read_callbacks.specs.declared.chain.CallbackId.{CallbackId}
use Rattle.read_callbacks.specs.declared.chain.CallbackId.TheVariants.{File, Buffer, Count}
use Rattle.read_callbacks.specs.Chain.{result_of, natural_part, is_negative, is_error}
use Rattle.read_callbacks.specs.Chain.{first_bad}
use Rattle.read_callbacks.specs.Chain.{stopped_at, after_file, after_buffer, Outcome, after_callback}
use Rattle.read_callbacks.specs.declared.chain.CallbackId.TheVariants.{ZeroBuffer, MarkBuffer}
use Rattle.page_check.specs.declared.rules.PageMark.{PageMark}
use Rattle.page_check.specs.declared.rules.PageMark.TheVariants.{Zeroed, Damaged}
use Rattle.read_callbacks.specs.Chain.{chain_result, has_check_behind_file, good_count, with_warning}
use Rattle.read_callbacks.specs.Chain.{bad_among, marked_first, after_marking, raw_result, IsWithin}
use Rattle.read_callbacks.specs.declared.chain.Raw.{Raw}
use Rattle.read_callbacks.specs.declared.chain.Raw.TheVariants.{Read, Failed}
use Rattle.std.specs.Prelude.{IfSome}

abbrev Below : ℕ → AioResult → Type 0
Below n p = natural_part p.result ≤ n

either_below : (b : Bool) (x y : AioResult) (n : ℕ) → Below n x → Below n y
    → Below n (if b then x else y)
either_below true x y n l r = l
either_below false x y n l r = r

pub file_below : (count : ℕ) (p : AioResult) → Below (natural_part p.result) (after_file count p)
file_below count p =
    let n : ℕ = natural_part p.result in
    either_below (is_negative p.result) (result_of 1 Error 1 (pos 0)) _ n (omega arith)
    (either_below (natural_part p.result == 0) (result_of 1 Error 2 (pos 0)) _ n (omega arith)
    (either_below (nat_lt (natural_part p.result) count) (result_of 1 Partial 0 p.result) p n
    (le_refl n) (le_refl n)))

stopped_below : (sums : Bool) (from : ℕ) (pages : List (List ℕ)) (p : AioResult) (o : Option ℕ)
    → first_bad sums from (take (natural_part p.result) pages) ≡ o
    → Below (natural_part p.result) (stopped_at p o)
stopped_below sums from pages p None e = le_refl (natural_part p.result)
stopped_below sums from pages p (Some i) e =
    let s = (first_bad-some sums from (take (natural_part p.result) pages) i e).within in
    let l = length-take (natural_part p.result) pages in omega arith

pub buffer_below : (sums : Bool) (from : ℕ) (pages : List (List ℕ)) (p : AioResult)
    → Below (natural_part p.result) (after_buffer sums from pages p)
unfolding after_buffer
buffer_below sums from pages p =
    either_below (is_error p.status) p _ (natural_part p.result) (le_refl (natural_part p.result))
    (stopped_below sums from pages p (first_bad sums from (take (natural_part p.result) pages)) refl)

pub warned_same : (mark : PageMark) (k : ℕ) (p : AioResult)
    → (with_warning mark k p).result ≡ p.result
warned_same mark zero p = refl
warned_same mark (suc k) p = refl

either_outcome_below : (b : Bool) (x y : Outcome) (n : ℕ) → Below n x.result → Below n y.result
    → Below n (if b then x else y).result
either_outcome_below true x y n l r = l
either_outcome_below false x y n l r = r

marking_below : (mark : PageMark) (sums : Bool) (from : ℕ) (o : Outcome)
    → Below (natural_part o.result.result) (after_marking mark sums from o).result
unfolding after_marking
marking_below mark sums from o =
    let n : ℕ = natural_part o.result.result in
    let same = ap natural_part (warned_same mark (bad_among sums from (take n o.pages)) o.result) in
    either_outcome_below (is_error o.result.status) o (marked_first mark sums from n o) n (le_refl n)
    (omega arith)

callback_below : (sums : Bool) (from count : ℕ) (id : CallbackId) (o : Outcome)
    → Below (natural_part o.result.result) (after_callback sums from count id o).result
callback_below sums from count File o = file_below count o.result
callback_below sums from count Buffer o = buffer_below sums from o.pages o.result
callback_below sums from count Count o = le_refl (natural_part o.result.result)
callback_below sums from count ZeroBuffer o = marking_below Zeroed sums from o
callback_below sums from count MarkBuffer o = marking_below Damaged sums from o

pub chain_below : (sums : Bool) (from count : ℕ) (ids : List CallbackId) (o : Outcome)
    → Below (natural_part o.result.result) (chain_result sums from count ids o).result
chain_below sums from count [] o = le_refl (natural_part o.result.result)
chain_below sums from count (id ∷ ids) o =
    let a = callback_below sums from count id (chain_result sums from count ids o) in
    let b = chain_below sums from count ids o in omega arith

good_few : (c : Bool) (n : ℕ) → (if c then n else 0) ≤ n
good_few true n = le_refl n
good_few false n = omega arith

-- no more pages are good than were read
pub good_below : (sums : Bool) (from count : ℕ) (ids : List CallbackId) (o : Outcome)
    → good_count ids (chain_result sums from count ids o).result ≤ natural_part o.result.result
good_below sums from count ids o =
    let a = good_few (has_check_behind_file ids) (natural_part (chain_result sums from count ids o).result.result) in
    let b = chain_below sums from count ids o in omega arith

first_within : (count : ℕ) (answer : Raw) → IsWithin count answer
    → natural_part (raw_result answer).result ≤ count
first_within count Failed w = omega arith
first_within count (Read n) w = w

-- nor more than were asked for
pub good_within : (count : ℕ) (ids : List CallbackId) (raw : Option Raw) (answer : Raw)
    (first p : AioResult) → IfSome raw (λ a. IsWithin count a) → raw ≡ Some answer
    → first ≡ raw_result answer → natural_part p.result ≤ natural_part first.result
    → good_count ids p ≤ count
good_within count ids raw answer first p w e f below =
    let within = subst (λ (o : Option Raw). IfSome o (λ a. IsWithin count a)) e w in
    let a = first_within count answer within in
    let b = good_few (has_check_behind_file ids) (natural_part p.result) in
    let same = ap (λ (q : AioResult). natural_part q.result) f in
    omega arith
