-- The oldest read of a stream: its pages are given, and then its record is free.
use Rattle.std.proofs.Common.{◌≡◌, ℕ, ◌+◌, ◌-◌, ◌<◌, ◌≤◌, List, [], ◌∷◌, ◌++◌, length, drop, take}
use Rattle.std.proofs.Common.{map, refl, sym, ap, ◌∙◌, arith, subst, inl, inr, ⊎_elim}
use Rattle.std.proofs.Common.{length-append}
use Rattle.std.specs.Prelude.{Some, slice_get}
use Rattle.std.proofs.lemmas.List.{length-map}
use Rattle.page_check.specs.declared.world.World.{Ghosts as WorldGhosts}
use Rattle.aio_word.specs.declared.Known.{Known}
use Rattle.aio_word.specs.declared.WaitRef.{WaitRef}
use Rattle.aio_word.specs.Stands.{IsIn}
use Rattle.aio_callback.specs.ReadIoView.{ReadIoView}
use Rattle.circular_buffer.specs.Buffer.{buffer}
use Rattle.read_plan.specs.declared.runs.Run.{Run}
use Rattle.read_stream.specs.declared.reads.EndedRead.{EndedRead}
use Rattle.read_stream.specs.declared.reads.Reads.{Reads}
use Rattle.read_stream.specs.declared.scope.Scope.{Scope}
use Rattle.read_stream.specs.StreamIos.{ReadsForRuns, InFlightForRuns, Issued, IsTakenIn, left_run}
use Rattle.read_stream.specs.StreamIos.{run_of, ungiven_count, first_given, oldest_given}
use Rattle.read_stream.specs.StreamIos.{oldest_freed, record_count, ios_started}
use Rattle.read_stream.proofs.QueueMovesKeepIssued.{first-of, less-ended, issued-records}
use Rattle.read_stream.proofs.ReadsMatchRuns.{same-run}

-- each I/O in flight is to read one run
in-flight-long : {W : Type 0} (c : Scope W) (p : Known) (ts : List WaitRef) (runs : List Run)
    → InFlightForRuns c p ts runs → length ts ≡ length runs
in-flight-long c p [] [] f = refl
in-flight-long c p (t ∷ ts) (run ∷ runs) f =
    let n = in-flight-long c p ts runs f.1 in omega arith
in-flight-long c p [] (run ∷ runs) f = absurd f
in-flight-long c p (t ∷ ts) [] f = absurd f

few-ungiven : (es : List EndedRead) → ungiven_count es ≤ length es
few-ungiven [] = omega arith
few-ungiven (e ∷ es) = let n = few-ungiven es in omega arith

given-long : (es : List EndedRead) → length (first_given es) ≡ length es
given-long [] = refl
given-long (e ∷ es) = refl

-- each of the reads has its record as before
given-records : (P : ReadIoView → Type 0) (es : List EndedRead)
    → ((e : EndedRead) → IsIn e es → P e.io) → (e : EndedRead) → IsIn e (first_given es) → P e.io
given-records P [] all e i = absurd i
given-records P (x ∷ es) all e i = ⊎_elim
    (λ same. subst (λ (z : EndedRead). P z.io) same (all x (inl refl)))
    (λ behind. all e (inr behind)) i

-- the blocks that are left behind the next one
left-behind : (e : EndedRead) → left_run (record e { given = e.given + 1 })
    ≡ record { first = (left_run e).first + 1; count = (left_run e).count - 1 }
left-behind e =
    let first : e.io.first + (e.given + 1) ≡ (left_run e).first + 1 = omega arith in
    let count : e.io.count - (e.given + 1) ≡ (left_run e).count - 1 = omega arith in
    same-run (left_run (record e { given = e.given + 1 }))
    (record { first = (left_run e).first + 1; count = (left_run e).count - 1 }) first count

module _ {W : Type 0} (c : Scope W) (p : Known) (s : Reads W) (given : ℕ) (runs : List Run)
    (a : ReadsForRuns c p s given runs) where
  lengths : length runs ≡ length s.ended.items + length s.in_flight.items + length s.batch
  lengths =
      let n : length runs ≡ length (map left_run s.ended.items ++ a.runs_in_flight
      ++ map (λ x. run_of x.1) s.batch) = ap (λ (z : List Run). length z) a.in_order in
      let b = length-append (map left_run s.ended.items ++ a.runs_in_flight)
      (map (λ x. run_of x.1) s.batch) in
      let d = length-append (map left_run s.ended.items) a.runs_in_flight in
      let e = length-map s.ended.items left_run in
      let f = length-map s.batch (λ x. run_of x.1) in
      let h = in-flight-long c p s.in_flight.items a.runs_in_flight a.stream_ios in omega arith

  -- a record that is not free is for one of the runs
  pub reads_count : record_count s ≡ length s.free.items + length runs
  reads_count = let n = lengths in omega arith

  -- each I/O that was started has given a page, or is for one of the runs
  pub few_started : ios_started s ≤ given + length runs
  few_started =
      let n = lengths in
      let few = a.few_ios in
      let ungiven = few-ungiven s.ended.items in omega arith

  module _ (e : EndedRead) (at : slice_get s.ended.items 0 ≡ Some e) where
    abbrev others : List EndedRead
    others = drop 1 s.ended.items

    first : s.ended.items ≡ e ∷ others
    first = first-of s.ended.items e at

    whole : runs ≡ left_run e ∷ (map left_run others ++ a.runs_in_flight
        ++ map (λ x. run_of x.1) s.batch)
    whole = a.in_order ∙ ap (λ (z : List EndedRead). map left_run z ++ a.runs_in_flight
        ++ map (λ x. run_of x.1) s.batch) first

    counted : s.taken_in ≤ given + ((1 - e.given) + ungiven_count others)
    counted = subst (λ (z : List EndedRead). s.taken_in ≤ given + ungiven_count z) first a.few_ios

    -- the first of the runs is what the oldest read has left, and is not empty
    pub oldest_is_first : (rest : List Run) × (runs ≡ left_run e ∷ rest) × (1 ≤ (left_run e).count)
    oldest_is_first = (
      map left_run others ++ a.runs_in_flight ++ map (λ x. run_of x.1) s.batch,
      whole,
      a.not_empty (left_run e) (subst (λ (z : List Run). IsIn (left_run e) z) (sym whole)
          (inl refl)),
    )

    -- the oldest read has given a page, and is not counted besides
    pub few_with_oldest : 0 < e.given → ios_started s + 1 ≤ given + length runs
    few_with_oldest some =
        let n = lengths in
        let few = counted in
        let ungiven = few-ungiven others in
        let m : length s.ended.items ≡ length (e ∷ others) =
        ap (λ (z : List EndedRead). length z) first in omega arith

    module _ (rest : List Run) (is : runs ≡ left_run e ∷ rest) where
      left : rest ≡ map left_run others ++ a.runs_in_flight ++ map (λ x. run_of x.1) s.batch
      left = let heads = sym is ∙ whole in cc

      rest-not-empty : (run : Run) → IsIn run rest → 1 ≤ run.count
      rest-not-empty run i =
          a.not_empty run (subst (λ (z : List Run). IsIn run z) (sym is) (inr i))

      -- the next page of the oldest read was given, which was not its last
      pub reads_given : 2 ≤ (left_run e).count → ReadsForRuns c p (oldest_given s) (given + 1)
          (record { first = (left_run e).first + 1; count = (left_run e).count - 1 } ∷ rest)
      reads_given more =
          let few = counted in
          let next : Run =
          record { first = (left_run e).first + 1; count = (left_run e).count - 1 } in
          let some : 1 ≤ next.count = omega arith in
          record {
            runs_in_flight = a.runs_in_flight;
            stream_ios = a.stream_ios;
            in_order = subst (λ (z : List EndedRead). next ∷ rest ≡ map left_run (first_given z)
                ++ a.runs_in_flight ++ map (λ x. run_of x.1) s.batch) (sym first)
                (ap (λ (z : List Run). next ∷ z) left
                ∙ ap (λ (z : Run). z ∷ (map left_run others ++ a.runs_in_flight
                ++ map (λ x. run_of x.1) s.batch)) (sym (left-behind e)));
            not_empty = λ run i. ⊎_elim (λ same. subst (λ (z : Run). 1 ≤ z.count) same some)
                (λ j. rest-not-empty run j) i;
            few_ios = subst (λ (z : List EndedRead). s.taken_in ≤ (given + 1)
                + ungiven_count (first_given z)) (sym first) (omega arith);
          }

      -- the last page of the oldest read was given, and its record is free
      pub reads_freed : ReadsForRuns c p (oldest_freed s) (given + 1) rest
      reads_freed =
          let few = counted in record {
            runs_in_flight = a.runs_in_flight;
            stream_ios = a.stream_ios;
            in_order = left;
            not_empty = rest-not-empty;
            few_ios = omega arith;
          }

      -- the record of the oldest read, which has given a page, lies with the caller
      pub reads_popped : 0 < e.given → ReadsForRuns c p (record s {
        ended = buffer (drop 1 s.ended.items) s.ended.capacity;
      }) given rest
      reads_popped some =
          let few = counted in record {
            runs_in_flight = a.runs_in_flight;
            stream_ios = a.stream_ios;
            in_order = left;
            not_empty = rest-not-empty;
            few_ios = omega arith;
          }

module _ {W : Type 0} (c : Scope W) (world : WorldGhosts W) (p : Known) (s : Reads W) where
  -- a page of the oldest read was given
  pub issued_given : Issued c world p s → Issued c world p (oldest_given s)
      × (record_count (oldest_given s) ≡ record_count s)
      × (ios_started (oldest_given s) ≡ ios_started s)
  issued_given i =
      let same = given-long s.ended.items in
      let few = i.count_within in (
        issued-records c world p s s.free.items (first_given s.ended.items) (omega arith) (record {
          free = i.records.free;
          ended_records = given-records (IsTakenIn c world p) s.ended.items
              i.records.ended_records;
        }) i,
        omega arith,
        refl,
      )

  -- the record of the oldest read is free
  pub issued_freed : (e : EndedRead) → slice_get s.ended.items 0 ≡ Some e → Issued c world p s
      → Issued c world p (oldest_freed s)
      × (record_count (oldest_freed s) ≡ record_count s)
      × (ios_started (oldest_freed s) ≡ ios_started s)
      × (length (oldest_freed s).free.items ≡ length s.free.items + 1)
  issued_freed e at i =
      let first = first-of s.ended.items e at in
      let others : List EndedRead = drop 1 s.ended.items in
      let whole : length s.ended.items ≡ length (e ∷ others) =
      ap (λ (z : List EndedRead). length z) first in
      let few = i.count_within in
      let record_is : map (λ x. x.io) (take 1 s.ended.items) ≡ e.io ∷ [] =
      ap (λ (z : List EndedRead). map (λ x. x.io) (take 1 z)) first in
      let free_is : (oldest_freed s).free.items ≡ e.io ∷ s.free.items =
      ap (λ (z : List ReadIoView). z ++ s.free.items) record_is in
      let more : length (oldest_freed s).free.items ≡ length (e.io ∷ s.free.items) =
      ap (λ (z : List ReadIoView). length z) free_is in
      let taken = i.records.ended_records e
      (subst (λ (z : List EndedRead). IsIn e z) (sym first) (inl refl)) in (
        issued-records c world p s (oldest_freed s).free.items others (omega arith) (record {
          free = λ r j. ⊎_elim
              (λ is. ap (λ (z : ReadIoView). length z.pages) (sym is) ∙ taken.is_stream_record.room)
              (λ in_free. i.records.free r in_free)
              (subst (λ (z : List ReadIoView). IsIn r z) free_is j);
          ended_records = λ x j. i.records.ended_records x
              (subst (λ (z : List EndedRead). IsIn x z) (sym first) (inr j));
        }) i,
        omega arith,
        refl,
        omega arith,
      )

  -- the record of the oldest read lies with the caller
  pub issued_popped : (e : EndedRead) → slice_get s.ended.items 0 ≡ Some e → Issued c world p s
      → Issued c world p (record s { ended = buffer (drop 1 s.ended.items) s.ended.capacity })
      × IsTakenIn c world p e.io
      × (length s.ended.items ≡ length (drop 1 s.ended.items) + 1)
  issued_popped e at i = less-ended c world p s e at i
