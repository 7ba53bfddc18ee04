-- The chain of callbacks of a read: from the raw answer and the pages that were read to the result
-- and the pages that are held. The callbacks run from the last registered to the first.
use Rattle.std.specs.Prelude.{◌≡◌, ℕ, ◌≤◌, ◌<◌, Bool, true, false, ◌||◌, ◌&&◌, ◌==◌, cond}
use Rattle.std.specs.Prelude.{nat_lt, slice_get}
use Rattle.std.specs.Prelude.{List, [], ◌∷◌, ◌++◌, length, map, take, drop, position, count_by}
use Rattle.std.specs.Prelude.{replicate, Option, Some, None, if◌then◌else◌, zero, suc, ℤ, pos}
use Rattle.std.specs.Prelude.{negsuc}
use Rattle.std.specs.List.{zip, list_any}
use Rattle.page_check.specs.declared.verdict.Verdict.{Verdict}
use Rattle.page_check.specs.declared.verdict.Verdict.TheVariants.{Bad}
use Rattle.page_check.specs.Checksum.{verdict_as}
use Rattle.page_check.specs.SynchronousAnswer.{zero_page}
use Rattle.page_check.specs.declared.rules.PageMark.{PageMark}
use Rattle.page_check.specs.declared.rules.PageMark.TheVariants.{Valid, Zeroed, Damaged}
use Rattle.aio_result.specs.declared.AioResult.{AioResult}
use Rattle.aio_result.specs.declared.Status.{Status}
use Rattle.aio_result.specs.declared.Status.TheVariants.{Good, Partial, Warning, Error}
use Rattle.aio_word.specs.declared.Class.{Class}
use Rattle.aio_word.specs.declared.Class.TheVariants as class
use Rattle.read_callbacks.specs.declared.chain.Raw.{Raw}
use Rattle.read_callbacks.specs.declared.chain.Raw.TheVariants.{Read, Failed}
use Rattle.read_callbacks.specs.declared.chain.CallbackId.{CallbackId}
use Rattle.read_callbacks.specs.declared.chain.CallbackId.TheVariants.{File, Buffer, Count}
use Rattle.read_callbacks.specs.declared.chain.CallbackId.TheVariants.{ZeroBuffer, MarkBuffer}

abbrev pub result_of : ℕ → Status → ℕ → ℤ → AioResult
result_of id status error number =
    record { id = id; status = status; error = error; result = number }

-- the greater of 0 and the number
abbrev pub natural_part : ℤ → ℕ
natural_part (pos n) = n
natural_part (negsuc n) = 0

abbrev pub is_negative : ℤ → Bool
is_negative (pos n) = false
is_negative (negsuc n) = true

abbrev pub is_error : Status → Bool
is_error Error = true
is_error _ = false

-- the result before any callback
abbrev pub raw_result : Raw → AioResult
raw_result (Read n) = result_of 0 Good 0 (pos n)
raw_result Failed = result_of 0 Good 0 (negsuc 0)

-- how the read of so many pages ended
abbrev pub class_of : ℕ → Raw → Class
class_of count (Read n) = cond (n == count) class.Whole class.Short
class_of count Failed = class.Failed

-- no more pages than were asked for
abbrev pub IsWithin : ℕ → Raw → Type 0
IsWithin count (Read n) = n ≤ count
IsWithin count Failed = Unit {0}

-- the read failed, read nothing, or read less than it was to
abbrev pub after_file : ℕ → AioResult → AioResult
after_file count p =
    if is_negative p.result then result_of 1 Error 1 (pos 0)
    else (if natural_part p.result == 0 then result_of 1 Error 2 (pos 0)
    else (if nat_lt (natural_part p.result) count then result_of 1 Partial 0 p.result
    else p))

abbrev pub is_bad_verdict : Verdict → Bool
is_bad_verdict Bad = true
is_bad_verdict _ = false

-- a page is bad as this block, with checksums verified or not
abbrev pub is_bad : Bool → ℕ → List ℕ → Bool
is_bad checksums block page = is_bad_verdict (verdict_as checksums block page)

-- pages beside the numbers of their blocks, from this one on
abbrev pub with_blocks : ℕ → List (List ℕ) → List (ℕ × List ℕ)
with_blocks first [] = []
with_blocks first (page ∷ pages) = (first, page) ∷ with_blocks (suc first) pages

abbrev pub is_bad_block : Bool → ℕ × List ℕ → Bool
is_bad_block checksums x = is_bad checksums x.0 x.1

-- the place of the first page that is bad
abbrev pub first_bad : Bool → ℕ → List (List ℕ) → Option ℕ
first_bad checksums first pages = position (is_bad_block checksums) (with_blocks first pages)

abbrev pub stopped_at : AioResult → Option ℕ → AioResult
stopped_at p None = p
stopped_at p (Some i) = result_of 2 Error i (pos i)

-- an error stays; else the first bad page among those that were read is one
unfoldable pub after_buffer : Bool → ℕ → List (List ℕ) → AioResult → AioResult
after_buffer checksums first pages p =
    if is_error p.status then p
    else stopped_at p (first_bad checksums first (take (natural_part p.result) pages))

-- a result beside the pages that are then held, and what is said of each
pub record Outcome : Type 0 where
  pub result : AioResult
  pub pages : List (List ℕ)
  pub marks : List PageMark

abbrev pub outcome_of : AioResult → List (List ℕ) → List PageMark → Outcome
outcome_of result pages marks = record { result = result; pages = pages; marks = marks }

-- so many pages, none of which was marked
abbrev pub all_valid : ℕ → List PageMark
all_valid room = replicate room Valid

-- before any callback
abbrev pub chain_start : Raw → List (List ℕ) → Outcome
chain_start answer pages = outcome_of (raw_result answer) pages (all_valid (length pages))

-- what a bad page becomes that is marked so
abbrev pub page_marked : PageMark → List ℕ → List ℕ
page_marked Zeroed page = zero_page
page_marked _ page = page

abbrev pub page_if_bad : PageMark → Bool → ℕ × List ℕ → List ℕ
page_if_bad mark checksums x = if is_bad_block checksums x then page_marked mark x.1 else x.1

-- a mark stays where the page is not bad
abbrev pub mark_if_bad : PageMark → Bool → (ℕ × List ℕ) × PageMark → PageMark
mark_if_bad mark checksums x = if is_bad_block checksums x.0 then mark else x.1

-- all bad ones of these pages
abbrev pub pages_for_bad : PageMark → Bool → ℕ → List (List ℕ) → List (List ℕ)
pages_for_bad mark checksums first pages = map (page_if_bad mark checksums) (with_blocks first pages)

abbrev pub marks_for_bad : PageMark → Bool → ℕ → List (List ℕ) → List PageMark → List PageMark
marks_for_bad mark checksums first pages marks =
    map (mark_if_bad mark checksums) (zip (with_blocks first pages) marks)

-- a mark that says more than that the page is valid
abbrev pub is_marked : PageMark → Bool
is_marked Valid = false
is_marked _ = true

-- how many of these pages are bad
abbrev pub bad_among : Bool → ℕ → List (List ℕ) → ℕ
bad_among checksums first pages = count_by (is_bad_block checksums) (with_blocks first pages)

-- the number of the callback that marks bad pages so
abbrev pub marking_id : PageMark → ℕ
marking_id Zeroed = 4
marking_id _ = 5

-- a warning that says how many pages were marked, if any was
abbrev pub with_warning : PageMark → ℕ → AioResult → AioResult
with_warning mark zero p = p
with_warning mark (suc k) p = result_of (marking_id mark) Warning (suc k) p.result

-- the bad ones among the first n pages are marked
abbrev pub marked_first : PageMark → Bool → ℕ → ℕ → Outcome → Outcome
marked_first mark checksums first n o = record {
  result = with_warning mark (bad_among checksums first (take n o.pages)) o.result;
  pages = pages_for_bad mark checksums first (take n o.pages) ++ drop n o.pages;
  marks = marks_for_bad mark checksums first (take n o.pages) (take n o.marks) ++ drop n o.marks;
}

-- an error stays; else the bad pages among those that were read are marked
unfoldable pub after_marking : PageMark → Bool → ℕ → Outcome → Outcome
after_marking mark checksums first o =
    if is_error o.result.status then o
    else marked_first mark checksums first (natural_part o.result.result) o

-- what one callback makes of the outcome before it, in a read of so many blocks from the first on
abbrev pub after_callback : Bool → ℕ → ℕ → CallbackId → Outcome → Outcome
after_callback checksums first count File o = record o { result = after_file count o.result }
after_callback checksums first count Buffer o =
    record o { result = after_buffer checksums first o.pages o.result }
after_callback checksums first count Count o = o
after_callback checksums first count ZeroBuffer o = after_marking Zeroed checksums first o
after_callback checksums first count MarkBuffer o = after_marking Damaged checksums first o

-- the callbacks run from the last registered to the first
abbrev pub chain_result : Bool → ℕ → ℕ → List CallbackId → Outcome → Outcome
chain_result checksums first count [] o = o
chain_result checksums first count (id ∷ ids) o =
    after_callback checksums first count id (chain_result checksums first count ids o)

abbrev pub is_file : CallbackId → Bool
is_file File = true
is_file _ = false

abbrev pub has_file : List CallbackId → Bool
has_file ids = list_any is_file ids

-- a callback checks pages
abbrev pub is_check : CallbackId → Bool
is_check Buffer = true
is_check ZeroBuffer = true
is_check MarkBuffer = true
is_check _ = false

-- one that checks pages is registered before a File, and so runs after it
pub record ChecksBehindFile (ids : List CallbackId) : Type 0 where
  pub check : ℕ
  pub file : ℕ
  pub order : check < file
  pub id : CallbackId
  pub here : slice_get ids check ≡ Some id
  pub checks : is_check id ≡ true
  pub reads : slice_get ids file ≡ Some File

-- whether one is so registered
abbrev pub has_check_behind_file : List CallbackId → Bool
has_check_behind_file [] = false
has_check_behind_file (id ∷ ids) = (is_check id && has_file ids) || has_check_behind_file ids

-- how many pages are good
abbrev pub good_count : List CallbackId → AioResult → ℕ
good_count ids p = if has_check_behind_file ids then natural_part p.result else 0
