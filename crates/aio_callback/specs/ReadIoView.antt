-- The record of a read, as contracts see it, and when it fits the contents of the relations.
use Rattle.std.specs.Prelude.{◌≡◌, ◌≢◌, ℕ, ◌+◌, ◌≤◌, ◌<◌, Bool, true, false, List, [], ◌∷◌, map}
use Rattle.std.specs.Prelude.{length, Option, Some, None, IfSome, slice_index_or, cond}
use Rattle.std.specs.Prelude.{replicate, pos}
use Rattle.std.specs.List.{refill}
use Rattle.page_check.specs.Told.{Told}
use Rattle.page_check.specs.declared.rules.PageMark.{PageMark}
use Rattle.page_check.specs.declared.rules.PageMark.TheVariants.{Valid}
use Rattle.aio_disk.specs.Disk.{ReadsPages}
use Rattle.aio_word.specs.declared.Class.{Class}
use Rattle.aio_word.specs.declared.Class.TheVariants.{Unended}
use Rattle.aio_handle.specs.declared.record.Label.{Label}
use Rattle.aio_handle.specs.Labels.{bound_label}
use Rattle.aio_result.specs.declared.AioResult.{AioResult}
use Rattle.aio_result.specs.declared.Status.TheVariants.{Unknown}
use Rattle.read_callbacks.specs.declared.chain.Raw.{Raw}
use Rattle.read_callbacks.specs.declared.chain.Raw.TheVariants.{Read, Failed}
use Rattle.read_callbacks.specs.declared.chain.CallbackId.{CallbackId}
use Rattle.read_callbacks.specs.declared.chain.CallbackId.TheVariants.{File, Buffer, Count}
use Rattle.read_callbacks.specs.declared.chain.CallbackId.TheVariants.{ZeroBuffer, MarkBuffer}
use Rattle.read_callbacks.specs.Chain.{Outcome, outcome_of, all_valid, chain_start, result_of}
use Rattle.read_callbacks.specs.Chain.{class_of}
use Rattle.read_callbacks.specs.Chain.{chain_result, good_count}
use Rattle.read_callbacks.specs.GoodPages.{IsGivenAs}

pub record ReadIoView : Type 0 where
  pub label : Label
  pub relation : ℕ
  pub first : ℕ
  pub count : ℕ
  -- whether the checksums of its pages are verified when it has ended
  pub checksums : Bool
  pub ids : List CallbackId
  pub aimed : Bool
  -- the raw answer that stands
  pub raw : Option Raw
  pub result : AioResult
  -- its pages, as many as it has room for
  pub pages : List (List ℕ)
  -- what was said of each when it ended
  pub marks : List PageMark

abbrev pub number_of_id : CallbackId → ℕ
number_of_id File = 1
number_of_id Buffer = 2
number_of_id Count = 3
number_of_id ZeroBuffer = 4
number_of_id MarkBuffer = 5

-- what it is to read, and into how much room
abbrev pub record_aim : ReadIoView → List ℕ
record_aim r =
    length r.pages ∷ r.relation ∷ r.first ∷ r.count ∷ cond r.checksums 1 0 ∷ map number_of_id r.ids

-- the records are to read the same blocks, with the same callbacks, and have as much room
pub record ReadsAs (r s : ReadIoView) : Type 0 where
  pub relation : r.relation ≡ s.relation
  pub first : r.first ≡ s.first
  pub count : r.count ≡ s.count
  pub checksums : r.checksums ≡ s.checksums
  pub ids : r.ids ≡ s.ids
  pub room : length r.pages ≡ length s.pages

abbrev pub record_page : ReadIoView → ℕ → List ℕ
record_page r i = slice_index_or r.pages i []

abbrev pub record_mark : ReadIoView → ℕ → PageMark
record_mark r i = slice_index_or r.marks i Valid

-- the raw answer says of these pages what a disk's answer to this read says
abbrev pub IsToldRead : Option Told → ReadIoView → Raw → List (List ℕ) → Type 0
IsToldRead told r (Read n) pages =
    (n ≤ r.count) × IfSome told (λ t. ReadsPages t r.relation r.first n pages)
IsToldRead told r Failed pages = Unit {0}

-- an answer stands, and the pages that it names are the told ones
pub record HasAnswer (told : Option Told) (r : ReadIoView) : Type 0 where
  pub answer : Raw
  pub is : r.raw ≡ Some answer
  pub told_read : IsToldRead told r answer r.pages

-- the first pages are what their marks say, for the blocks that were read
abbrev pub AllGood : Option Told → ReadIoView → ℕ → Type 0
AllGood told r good = (i : ℕ) → i < good
    → IsGivenAs told r.checksums r.relation (r.first + i) (record_page r i) (record_mark r i)

-- the read has ended: its result and its pages are those of its callbacks, for some answer and the
-- pages that were read then
pub record IsCompletedRead (told : Option Told) (r : ReadIoView) : Type 0 where
  pub answer : Raw
  pub read : List (List ℕ)
  pub told_read : IsToldRead told r answer read
  pub class : r.label.ended ≡ class_of r.count answer
  pub outcome : outcome_of r.result r.pages r.marks
      ≡ chain_result r.checksums r.first r.count r.ids (chain_start answer read)
  pub few : good_count r.ids r.result ≤ r.count
  pub good : AllGood told r (good_count r.ids r.result)

pub record ReadFits (told : Option Told) (relations : ℕ) (r : ReadIoView) : Type 0 where
  pub aimed : r.aimed ≡ true
  pub some : 0 < r.count
  pub within : r.relation < relations
  pub fresh : r.label.ended ≡ Unended → r.raw ≡ None
  pub ended : r.label.ended ≢ Unended → IsCompletedRead told r

-- as `make` gives it
abbrev pub new_record : ℕ → ReadIoView
new_record room = record {
  label = bound_label 0 0;
  relation = 0;
  first = 0;
  count = 0;
  checksums = false;
  ids = [];
  aimed = false;
  raw = None;
  result = result_of 0 Unknown 0 (pos 0);
  pages = replicate room (replicate 8192 0);
  marks = all_valid room;
}

-- after `bind`: no answer stands
abbrev pub with_handle : ℕ → ℕ → ReadIoView → ReadIoView
with_handle handle generation r = record r { label = bound_label handle generation; raw = None }

-- after `aim`: nothing has ended, and no answer stands
abbrev pub with_aim : ℕ → ℕ → ℕ → Bool → List CallbackId → ReadIoView → ReadIoView
with_aim relation first count checksums ids r = record r {
  label = bound_label r.label.handle r.label.generation;
  relation = relation;
  first = first;
  count = count;
  checksums = checksums;
  ids = ids;
  aimed = true;
  raw = None;
}

-- with these in place of its first pages
abbrev pub with_pages : ReadIoView → List (List ℕ) → ReadIoView
with_pages r first = record r { pages = refill (length r.pages) r.pages first }

-- after the shared callbacks
abbrev pub with_outcome : ReadIoView → Outcome → Class → ReadIoView
with_outcome r o class = record r {
  label = record r.label { ended = class; settled = false };
  result = o.result;
  pages = o.pages;
  marks = o.marks;
}

abbrev pub after_shared : ReadIoView → Raw → ReadIoView
after_shared r answer =
    with_outcome r (chain_result r.checksums r.first r.count r.ids (chain_start answer r.pages))
    (class_of r.count answer)

abbrev pub IsAfterShared : ReadIoView → ReadIoView → Raw → Type 0
IsAfterShared s r answer = s ≡ after_shared r answer

-- after the local ones
abbrev pub after_local : ReadIoView → ReadIoView
after_local r = record r { label = record r.label { settled = true } }
