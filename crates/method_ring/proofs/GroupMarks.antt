-- What the marks of a group count.
use Rattle.std.proofs.Common.{◌≡◌, ◌≢◌, ℕ, ◌+◌, ◌<◌, List, [], ◌∷◌, ◌++◌, map, length, refl, arith}
use Rattle.aio_word.specs.declared.WaitRef.{WaitRef}
use Rattle.aio_word.specs.declared.Kind.TheVariants as kind
use Rattle.aio_word.specs.Tokens.{ClaimsAreCompleted, claimed_mark_count, io_mark_count}
use Rattle.aio_word.specs.Tokens.{failed_mark_count, make_mark}
use Rattle.aio_word.proofs.MoreMarksKeep.{count_at_place, mark_count-more, mark_count-place}
use Rattle.aio_word.proofs.MoreMarksKeep.{io-more, claims-more, failed-more}
use Rattle.aio_handle.proofs.ListsGrow.{claims-completed-one}
use Rattle.aio_callback.specs.ReadIoView.{ReadIoView}
use Rattle.aio_callback.specs.Finishes.{record_reference}
use Rattle.method_ring.specs.ClaimedIos.{ClaimedIo, claimed_mark}
use Rattle.method_ring.specs.RingRunner.{group_claims, end_marks, all_end_marks, read_claim_mark}

-- Claimed marks are at one place alone
claims-at : (t : WaitRef) (i : ℕ) → 3 ≢ i → i < 8 → (held : List ClaimedIo)
    → count_at_place t i (group_claims held) ≡ 0
claims-at t i ne lt [] = refl
claims-at t i ne lt (x ∷ xs) =
    let z : count_at_place t i (claimed_mark x ∷ []) ≡ 0 =
    mark_count-place t x.1.0 i kind.Claimed [] ne lt in
    let more : count_at_place t i (group_claims (x ∷ xs))
    ≡ count_at_place t i (claimed_mark x ∷ []) + count_at_place t i (group_claims xs) =
    mark_count-more t i (claimed_mark x ∷ []) (group_claims xs) in
    omega (arith, claims-at t i ne lt xs)

-- the marks of an end are at two places
end-at : (t : WaitRef) (i : ℕ) → 4 ≢ i → 5 ≢ i → i < 8 → (r : ReadIoView)
    → count_at_place t i (end_marks r) ≡ 0
end-at t i n4 n5 lt r =
    let a : count_at_place t i (make_mark (record_reference r) (kind.Io r.label.ended) ∷ []) ≡ 0 =
    mark_count-place t (record_reference r) i (kind.Io r.label.ended) [] n4 lt in
    let b : count_at_place t i (make_mark (record_reference r) kind.Shared ∷ []) ≡ 0 =
    mark_count-place t (record_reference r) i kind.Shared [] n5 lt in
    let more : count_at_place t i (end_marks r)
    ≡ count_at_place t i (make_mark (record_reference r) (kind.Io r.label.ended) ∷ [])
    + count_at_place t i (make_mark (record_reference r) kind.Shared ∷ []) =
    mark_count-more t i (make_mark (record_reference r) (kind.Io r.label.ended) ∷ [])
    (make_mark (record_reference r) kind.Shared ∷ []) in
    omega arith

ends-at : (t : WaitRef) (i : ℕ) → 4 ≢ i → 5 ≢ i → i < 8 → (rs : List ReadIoView)
    → count_at_place t i (all_end_marks rs) ≡ 0
ends-at t i n4 n5 lt [] = refl
ends-at t i n4 n5 lt (r ∷ rs) =
    let more = mark_count-more t i (end_marks r) (all_end_marks rs) in
    let a = end-at t i n4 n5 lt r in
    omega (arith, ends-at t i n4 n5 lt rs)

-- an end has an Io mark and a Shared mark of its incarnation
end-io : (t : WaitRef) (r : ReadIoView) → count_at_place t 4 (end_marks r)
    ≡ count_at_place t 3 (read_claim_mark r ∷ [])
end-io t r =
    let one : count_at_place t 4 (read_claim_mark r ∷ end_marks r)
    ≡ count_at_place t 3 (read_claim_mark r ∷ end_marks r) =
    (claims-completed-one r.label.ended r.label.handle r.label.generation).io t in
    let a : count_at_place t 4 (read_claim_mark r ∷ end_marks r)
    ≡ count_at_place t 4 (read_claim_mark r ∷ []) + count_at_place t 4 (end_marks r) =
    mark_count-more t 4 (read_claim_mark r ∷ []) (end_marks r) in
    let b : count_at_place t 3 (read_claim_mark r ∷ end_marks r)
    ≡ count_at_place t 3 (read_claim_mark r ∷ []) + count_at_place t 3 (end_marks r) =
    mark_count-more t 3 (read_claim_mark r ∷ []) (end_marks r) in
    let z : count_at_place t 4 (read_claim_mark r ∷ []) ≡ 0 =
    mark_count-place t (record_reference r) 4 kind.Claimed [] (λ e. omega arith) (omega arith) in
    let y = end-at t 3 (λ e. omega arith) (λ e. omega arith) (omega arith) r in
    omega arith

end-shared : (t : WaitRef) (r : ReadIoView)
    → count_at_place t 5 (end_marks r) ≡ count_at_place t 3 (read_claim_mark r ∷ [])
end-shared t r =
    let one : count_at_place t 5 (read_claim_mark r ∷ end_marks r)
    ≡ count_at_place t 3 (read_claim_mark r ∷ end_marks r) =
    (claims-completed-one r.label.ended r.label.handle r.label.generation).shared t in
    let a : count_at_place t 5 (read_claim_mark r ∷ end_marks r)
    ≡ count_at_place t 5 (read_claim_mark r ∷ []) + count_at_place t 5 (end_marks r) =
    mark_count-more t 5 (read_claim_mark r ∷ []) (end_marks r) in
    let b : count_at_place t 3 (read_claim_mark r ∷ end_marks r)
    ≡ count_at_place t 3 (read_claim_mark r ∷ []) + count_at_place t 3 (end_marks r) =
    mark_count-more t 3 (read_claim_mark r ∷ []) (end_marks r) in
    let z : count_at_place t 5 (read_claim_mark r ∷ []) ≡ 0 =
    mark_count-place t (record_reference r) 5 kind.Claimed [] (λ e. omega arith) (omega arith) in
    let y = end-at t 3 (λ e. omega arith) (λ e. omega arith) (omega arith) r in
    omega arith

ends-io : (t : WaitRef) (rs : List ReadIoView)
    → count_at_place t 4 (all_end_marks rs) ≡ count_at_place t 3 (map read_claim_mark rs)
ends-io t [] = refl
ends-io t (r ∷ rs) =
    let a = mark_count-more t 4 (end_marks r) (all_end_marks rs) in
    let b : count_at_place t 3 (map read_claim_mark (r ∷ rs))
    ≡ count_at_place t 3 (read_claim_mark r ∷ [])
    + count_at_place t 3 (map read_claim_mark rs) = mark_count-more t 3 (read_claim_mark r ∷ [])
    (map read_claim_mark rs) in
    let d = end-io t r in omega (arith, ends-io t rs)

ends-shared : (t : WaitRef) (rs : List ReadIoView)
    → count_at_place t 5 (all_end_marks rs) ≡ count_at_place t 3 (map read_claim_mark rs)
ends-shared t [] = refl
ends-shared t (r ∷ rs) =
    let a = mark_count-more t 5 (end_marks r) (all_end_marks rs) in
    let b : count_at_place t 3 (map read_claim_mark (r ∷ rs))
    ≡ count_at_place t 3 (read_claim_mark r ∷ [])
    + count_at_place t 3 (map read_claim_mark rs) = mark_count-more t 3 (read_claim_mark r ∷ [])
    (map read_claim_mark rs) in
    let d = end-shared t r in omega (arith, ends-shared t rs)

-- how many marks there are
claims-count : (held : List ClaimedIo) → claimed_mark_count (group_claims held) ≡ length held
claims-count [] = refl
claims-count (x ∷ xs) =
    let more : claimed_mark_count (group_claims (x ∷ xs)) ≡ claimed_mark_count (claimed_mark x ∷ [])
    + claimed_mark_count (group_claims xs) = claims-more (claimed_mark x ∷ []) (group_claims xs) in
    let one : claimed_mark_count (claimed_mark x ∷ []) ≡ 1 = refl in omega (arith, claims-count xs)

pub claims-io : (held : List ClaimedIo) → io_mark_count (group_claims held) ≡ 0
claims-io [] = refl
claims-io (x ∷ xs) =
    let more : io_mark_count (group_claims (x ∷ xs)) ≡ io_mark_count (claimed_mark x ∷ [])
    + io_mark_count (group_claims xs) = io-more (claimed_mark x ∷ []) (group_claims xs) in
    let one : io_mark_count (claimed_mark x ∷ []) ≡ 0 = refl in omega (arith, claims-io xs)

pub claims-failed : (held : List ClaimedIo) → failed_mark_count (group_claims held) ≡ 0
claims-failed [] = refl
claims-failed (x ∷ xs) =
    let more : failed_mark_count (group_claims (x ∷ xs)) ≡ failed_mark_count (claimed_mark x ∷ [])
    + failed_mark_count (group_claims xs) = failed-more (claimed_mark x ∷ []) (group_claims xs) in
    let one : failed_mark_count (claimed_mark x ∷ []) ≡ 0 = refl in omega (arith, claims-failed xs)

pub ends-count : (rs : List ReadIoView) → io_mark_count (all_end_marks rs) ≡ length rs
ends-count [] = refl
ends-count (r ∷ rs) =
    let more = io-more (end_marks r) (all_end_marks rs) in
    let one : io_mark_count (end_marks r) ≡ 1 = refl in omega (arith, ends-count rs)

ends-claims : (rs : List ReadIoView) → claimed_mark_count (all_end_marks rs) ≡ 0
ends-claims [] = refl
ends-claims (r ∷ rs) =
    let more = claims-more (end_marks r) (all_end_marks rs) in
    let one : claimed_mark_count (end_marks r) ≡ 0 = refl in omega (arith, ends-claims rs)

-- what was claimed and has ended was taken up
pub took-all : (held : List ClaimedIo) (rs : List ReadIoView)
    → ((t : WaitRef) → count_at_place t 3 (group_claims held)
    ≡ count_at_place t 3 (map read_claim_mark rs))
    → length held ≡ length rs → ClaimsAreCompleted (group_claims held ++ all_end_marks rs)
took-all held rs once count = record {
  owners = λ t.
      let none : (i : ℕ) → 3 ≢ i → 4 ≢ i → 5 ≢ i → i < 8
      → count_at_place t i (group_claims held ++ all_end_marks rs) ≡ 0 = λ i n3 n4 n5 lt.
      let more = mark_count-more t i (group_claims held) (all_end_marks rs) in
      let a = claims-at t i n3 lt held in let b = ends-at t i n4 n5 lt rs in omega arith in
      let a = none 0 (λ e. omega arith) (λ e. omega arith) (λ e. omega arith) (omega arith) in
      let b = none 1 (λ e. omega arith) (λ e. omega arith) (λ e. omega arith) (omega arith) in
      let d = none 2 (λ e. omega arith) (λ e. omega arith) (λ e. omega arith) (omega arith) in
      let e = none 6 (λ e. omega arith) (λ e. omega arith) (λ e. omega arith) (omega arith) in
      let f = none 7 (λ e. omega arith) (λ e. omega arith) (λ e. omega arith) (omega arith) in
      omega arith;
  io = λ t.
      let more = mark_count-more t 4 (group_claims held) (all_end_marks rs) in
      let more3 = mark_count-more t 3 (group_claims held) (all_end_marks rs) in
      let a = claims-at t 4 (λ e. omega arith) (omega arith) held in
      let b = ends-at t 3 (λ e. omega arith) (λ e. omega arith) (omega arith) rs in
      let d = ends-io t rs in let e = once t in omega arith;
  shared = λ t.
      let more = mark_count-more t 5 (group_claims held) (all_end_marks rs) in
      let more3 = mark_count-more t 3 (group_claims held) (all_end_marks rs) in
      let a = claims-at t 5 (λ e. omega arith) (omega arith) held in
      let b = ends-at t 3 (λ e. omega arith) (λ e. omega arith) (omega arith) rs in
      let d = ends-shared t rs in let e = once t in omega arith;
  all =
      let a = io-more (group_claims held) (all_end_marks rs) in
      let b = claims-more (group_claims held) (all_end_marks rs) in
      let d = claims-count held in let e = claims-io held in
      let f = ends-count rs in let g = ends-claims rs in omega arith;
}
