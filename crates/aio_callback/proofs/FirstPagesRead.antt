-- A record whose first pages were read.
use Rattle.std.proofs.Common.{cond}
use Rattle.std.proofs.Common.{◌≡◌, ℕ, ◌≤◌, List, ◌++◌, take, drop, length, refl}
use Rattle.std.proofs.Common.{◌∙◌, ◌∷◌, map, ap, sym}
use Rattle.std.proofs.Common.{arith, Option, Some, None}
use Rattle.std.specs.Prelude.{IfSome}
use Rattle.std.specs.List.{refill, length_refill}
use Rattle.std.proofs.lemmas.List.{take-append-le, take-take}
use Rattle.page_check.specs.Told.{Told}
use Rattle.aio_disk.specs.Disk.{ReadsPages}
use Rattle.read_callbacks.specs.declared.chain.Raw.{Raw}
use Rattle.read_callbacks.specs.declared.chain.Raw.TheVariants.{Read, Failed}
use Rattle.aio_callback.specs.ReadIoView.{ReadIoView, IsToldRead, HasAnswer, with_pages}
use Rattle.aio_callback.specs.ReadIoView.{record_aim, number_of_id}

first_stay : {X : Type 0} (n size : ℕ) (before pages : List X) → n ≤ length pages
    → length pages ≤ size → take n (refill size before pages) ≡ take n pages
first_stay n size before pages le room =
    take-take n size (pages ++ drop (length pages) before) (omega arith)
    ∙ take-append-le n pages (drop (length pages) before) le

reads_still : (told : Option Told) (relation first n : ℕ) (pages more : List (List ℕ))
    → take n more ≡ take n pages → IfSome told (λ t. ReadsPages t relation first n pages)
    → IfSome told (λ t. ReadsPages t relation first n more)
reads_still None relation first n pages more e h = h
reads_still (Some t) relation first n pages more e h = record {
  within = h.within;
  some = h.some;
  told_pages = e ∙ h.told_pages;
}

told_still : (told : Option Told) (r : ReadIoView) (answer : Raw) (pages : List (List ℕ))
    → length pages ≡ r.count → r.count ≤ length r.pages → IsToldRead told r answer pages
    → IsToldRead told (record (with_pages r pages) { raw = Some answer }) answer
    (refill (length r.pages) r.pages pages)
told_still told r Failed pages size room h = h
told_still told r (Read n) pages size room h =
    let w = h.0 in (
      h.0,
      reads_still told r.relation r.first n pages (refill (length r.pages) r.pages pages)
          (first_stay n (length r.pages) r.pages pages (omega arith) (omega arith)) h.1,
    )

pub answered_by : (told : Option Told) (r : ReadIoView) (answer : Raw) (pages : List (List ℕ))
    → length pages ≡ r.count → r.count ≤ length r.pages → IsToldRead told r answer pages
    → HasAnswer told (record (with_pages r pages) { raw = Some answer })
answered_by told r answer pages size room h = record {
  answer = answer;
  is = refl;
  told_read = told_still told r answer pages size room h;
}

-- what is written into the pages leaves what the record is aimed at
pub aim_stays : (r : ReadIoView) (pages : List (List ℕ))
    → record_aim (with_pages r pages) ≡ record_aim r
aim_stays r pages =
    ap (λ (n : ℕ). n ∷ r.relation ∷ r.first ∷ r.count ∷ cond r.checksums 1 0 ∷ map number_of_id r.ids)
    (sym (length_refill (length r.pages) r.pages pages refl))
