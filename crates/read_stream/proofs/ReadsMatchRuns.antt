-- The I/Os of a stream, and the runs that they are to read.
use Rattle.std.proofs.Common.{◌≡◌, ℕ, ◌≤◌, List, [], ◌∷◌, ◌++◌, length, refl, sym, ap, ◌∙◌, subst}
use Rattle.std.proofs.Common.{append_assoc, inl, ⊎_elim, arith}
use Rattle.std.specs.Prelude.{◌+◌, ◌-◌, map}
use Rattle.std.proofs.lemmas.List.{map-append}
use Rattle.aio_word.specs.declared.Known.{Known}
use Rattle.aio_word.specs.declared.WaitRef.{WaitRef}
use Rattle.aio_word.specs.Stands.{IsIn}
use Rattle.aio_batch.specs.NextSubmission.{IsNextSubmission}
use Rattle.aio_callback.specs.ReadIoView.{ReadIoView, record_aim}
use Rattle.circular_buffer.specs.Buffer.{buffer}
use Rattle.read_plan.specs.declared.runs.Run.{Run}
use Rattle.read_stream.specs.declared.reads.EndedRead.{EndedRead}
use Rattle.read_stream.specs.declared.reads.Reads.{Reads}
use Rattle.read_stream.specs.declared.scope.Scope.{Scope}
use Rattle.read_stream.specs.StreamIos.{IsStreamRecord, ReadsBlocks, InFlightForRuns, ReadsForRuns}
use Rattle.read_stream.specs.StreamIos.{run_of, left_run, ungiven_count}
use Rattle.read_stream.specs.StreamIos.{SameReads}
use Rattle.read_stream.specs.ActorProgress.{ActorAdvanced}
use Rattle.read_stream.proofs.PushedList.{each-pushed}
use Rattle.read_stream.proofs.SubmitKeepsIssued.{is-none, only-one}

-- a list with one element moved over a border
moved-over : {A : Type 0} (xs ys zs : List A) (x : A)
    → xs ++ ys ++ (x ∷ zs) ≡ xs ++ (ys ++ x ∷ []) ++ zs
moved-over xs ys zs x = append_assoc xs ys (x ∷ zs)
    ∙ (ap (λ (z : List _). xs ++ z) (sym (append_assoc ys (x ∷ []) zs))
    ∙ sym (append_assoc xs (ys ++ x ∷ []) zs))

-- runs with the same numbers
pub same-run : (x y : Run) → x.first ≡ y.first → x.count ≡ y.count → x ≡ y
same-run x y e f = ap (λ (z : ℕ). record { first = z; count = x.count }) e
    ∙ ap (λ (z : ℕ). record { first = y.first; count = z }) f

-- a record with these numbers is for this run
pub is-run : (r : ReadIoView) (run : Run) → (r.first ≡ run.first) × (r.count ≡ run.count)
    → run_of r ≡ run
is-run r run e = same-run (run_of r) run e.0 e.1

-- a read of which no page was given
abbrev pub new_ended : ReadIoView → EndedRead
new_ended io = record { io = io; given = 0 }

-- all its blocks are left
left-of-new : (io : ReadIoView) → left_run (new_ended io) ≡ run_of io
left-of-new io = let first : io.first + 0 ≡ io.first = omega arith in
    let count : io.count - 0 ≡ io.count = omega arith in
    same-run (left_run (new_ended io)) (run_of io) first count

-- it is one more that has given no page
ungiven-pushed : (es : List EndedRead) (io : ReadIoView)
    → ungiven_count (es ++ new_ended io ∷ []) ≡ ungiven_count es + 1
ungiven-pushed [] io = omega arith
ungiven-pushed (e ∷ es) io = let n = ungiven-pushed es io in omega arith

module _ {W : Type 0} (c : Scope W) where
  in-flight-later : (p q : Known) (ts : List WaitRef) (runs : List Run)
      → ((x : WaitRef × List ℕ) → IsIn x p.aims → IsIn x q.aims) → InFlightForRuns c p ts runs
      → InFlightForRuns c q ts runs
  in-flight-later p q [] [] aims f = tt
  in-flight-later p q (t ∷ ts) (run ∷ runs) aims f = (
    (f.0.0, f.0.1, aims (t, record_aim f.0.0) f.0.2, f.0.3, f.0.4),
    in-flight-later p q ts runs
        aims
        f.1,
  )
  in-flight-later p q [] (run ∷ runs) aims f = absurd f
  in-flight-later p q (t ∷ ts) [] aims f = absurd f

  in-flight-push : (p : Known) (ts : List WaitRef) (runs : List Run) (t : WaitRef) (run : Run)
      → InFlightForRuns c p ts runs → ReadsBlocks c run.first run.count p t
      → InFlightForRuns c p (ts ++ t ∷ []) (runs ++ run ∷ [])
  in-flight-push p [] [] t run f new = (new, tt)
  in-flight-push p (u ∷ ts) (r ∷ runs) t run f new = (f.0, in-flight-push p ts runs t run f.1 new)
  in-flight-push p [] (r ∷ runs) t run f new = absurd f
  in-flight-push p (u ∷ ts) [] t run f new = absurd f

  -- the first I/O was waited for, and its record came
  pub in-flight-first : (p q : Known) (t : WaitRef) (ts : List WaitRef) (io : ReadIoView)
      (runs : List Run) → ((x : WaitRef × List ℕ) → IsIn x p.aims → IsIn x q.aims)
      → ((first count : ℕ) → ReadsBlocks c first count p t → (io.first ≡ first)
      × (io.count ≡ count)) → InFlightForRuns c p (t ∷ ts) runs
      → (rest : List Run) × (runs ≡ run_of io ∷ rest) × InFlightForRuns c q ts rest
  in-flight-first p q t ts io [] aims aim f = absurd f
  in-flight-first p q t ts io (run ∷ runs) aims aim f = (
    runs,
    ap (λ (z : Run). z ∷ runs) (sym (is-run io run (aim run.first run.count f.0))),
    in-flight-later p q ts runs aims f.1,
  )

  -- no I/O is in flight
  pub in-flight-none : (p : Known) (ts : List WaitRef) (runs : List Run) → ts ≡ []
      → InFlightForRuns c p ts runs → runs ≡ []
  in-flight-none p [] [] none f = refl
  in-flight-none p [] (run ∷ runs) none f = absurd f
  in-flight-none p (t ∷ ts) runs none f = absurd (cc)

  -- the same I/Os, later
  pub reads-later : (p q : Known) (s s' : Reads W) (given : ℕ) (runs : List Run)
      → ((x : WaitRef × List ℕ) → IsIn x p.aims → IsIn x q.aims)
      → s'.in_flight.items ≡ s.in_flight.items → s'.ended.items ≡ s.ended.items
      → s'.batch ≡ s.batch → s'.taken_in ≡ s.taken_in → ReadsForRuns c p s given runs
      → ReadsForRuns c q s' given runs
  reads-later p q s s' given runs aims in_flight ended batch taken a = record {
    runs_in_flight = a.runs_in_flight;
    stream_ios = rw in_flight
        (in-flight-later p q s.in_flight.items a.runs_in_flight aims a.stream_ios);
    in_order = rw (ended, batch) a.in_order;
    not_empty = a.not_empty;
    few_ios = rw (ended, taken) a.few_ios;
  }

  -- the oldest I/O in flight was waited for, and its record lies with the caller
  pub reads-settled : (p q : Known) (s s' : Reads W) (given : ℕ) (runs : List Run)
      → ((x : WaitRef × List ℕ) → IsIn x p.aims → IsIn x q.aims)
      → s' ≡ record s { taken_in = s.taken_in + 1 } → ReadsForRuns c p s given runs
      → ReadsForRuns c q s' (given + 1) runs
  reads-settled p q s s' given runs aims is a =
      let few = a.few_ios in
      subst (λ (z : Reads W). ReadsForRuns c q z (given + 1) runs) (sym is) (record {
        runs_in_flight = a.runs_in_flight;
        stream_ios = in-flight-later p q s.in_flight.items a.runs_in_flight aims a.stream_ios;
        in_order = a.in_order;
        not_empty = a.not_empty;
        few_ios = omega arith;
      })

  -- one I/O of the batch was submitted, and its token stands behind those in flight
  pub reads-submitted : (p q : Known) (s : Reads W) (after : List (WaitRef × ReadIoView))
      (t : WaitRef) (a b d e : ℕ) (given : ℕ) (runs : List Run)
      → IsNextSubmission record_aim s.batch after t p q a b d e
      → ActorAdvanced p q a b d e
      → ((x : WaitRef × ReadIoView) → IsIn x s.batch → IsStreamRecord c x.1)
      → ReadsForRuns c p s given runs
      → ReadsForRuns c q (record s {
        batch = after;
        in_flight = buffer (s.in_flight.items ++ t ∷ []) s.in_flight.capacity;
      }) given runs
  reads-submitted p q s after t a b d e given runs n actor_advanced aimed f =
      let r : ReadIoView = n.token.1 in
      record {
        runs_in_flight = f.runs_in_flight ++ run_of r ∷ [];
        stream_ios = in-flight-push q s.in_flight.items f.runs_in_flight t (run_of r)
            (in-flight-later p q s.in_flight.items f.runs_in_flight actor_advanced.aims
            f.stream_ios) (
              r,
              aimed n.token (rw n.first (inl refl)),
              n.aim,
              refl,
              refl,
            );
        in_order = f.in_order ∙ rw n.first (moved-over (map left_run s.ended.items)
            f.runs_in_flight (map (λ x. run_of x.1) after) (run_of r));
        not_empty = f.not_empty;
        few_ios = f.few_ios;
      }

  -- the first I/O in flight was taken in, and its record stands behind those that have ended
  pub reads-taken-in : (p q : Known) (s s' : Reads W) (io : ReadIoView) (given : ℕ)
      (runs : List Run)
      → ((runs_in_flight : List Run) → InFlightForRuns c p s.in_flight.items runs_in_flight
      → (rest : List Run)
      × (runs_in_flight ≡ run_of io ∷ rest) × InFlightForRuns c q s'.in_flight.items rest)
      → s'.ended.items ≡ s.ended.items ++ new_ended io ∷ [] → s'.batch ≡ s.batch
      → s'.taken_in ≡ s.taken_in + 1 → ReadsForRuns c p s given runs
      → ReadsForRuns c q s' given runs
  reads-taken-in p q s s' io given runs lands ended batch taken f =
      let (rest, first, stream_ios) = lands f.runs_in_flight f.stream_ios in
      let few = f.few_ios in
      let more = ungiven-pushed s.ended.items io in
      let count : ungiven_count s'.ended.items ≡ ungiven_count (s.ended.items ++ new_ended io ∷ [])
      = ap (λ (z : List EndedRead). ungiven_count z) ended in
      record {
        runs_in_flight = rest;
        stream_ios = stream_ios;
        in_order = f.in_order
            ∙ (ap (λ (z : List Run). map left_run s.ended.items ++ z
            ++ map (λ x. run_of x.1) s.batch) first ∙ rw (
              ended,
              batch,
              map-append left_run s.ended.items (new_ended io ∷ []),
              left-of-new io,
              append_assoc (map left_run s.ended.items) (run_of io ∷ []) rest,
            ) refl);
        not_empty = f.not_empty;
        few_ios = omega arith;
      }

  -- the only I/O of a batch was submitted, and its token lies with the caller
  pub reads-at-once : (p q : Known) (s s' : Reads W) (x : WaitRef × ReadIoView)
      (after : List (WaitRef × ReadIoView)) (t : WaitRef) (a b d e : ℕ) (given : ℕ)
      (runs : List Run)
      → length s.batch ≤ 0 → s' ≡ record s { batch = s.batch ++ x ∷ [] }
      → IsNextSubmission record_aim s'.batch after t p q a b d e → ActorAdvanced p q a b d e
      → ReadsForRuns c p s given runs → ReadsForRuns c q (record s' { batch = after }) given runs
  reads-at-once p q s s' x after t a b d e given runs none is n actor_advanced f =
      let gone = (only-one c p q s s' x after t a b d e none is n).1 in
      reads-later p q s (record s' { batch = after }) given runs actor_advanced.aims
      (ap (λ (z : Reads W). z.in_flight.items) is) (ap (λ (z : Reads W). z.ended.items) is)
      (gone ∙ sym (is-none s.batch none)) (ap (λ (z : Reads W). z.taken_in) is) f

  -- a read was settled, and its record is kept before the others: no page of it was given
  pub reads-fronted : (p : Known) (s s' : Reads W) (io : ReadIoView) (run : Run) (given : ℕ)
      (runs : List Run)
      → s' ≡ record s { ended = buffer (new_ended io ∷ s.ended.items) s.ended.capacity }
      → (io.first ≡ run.first) × (io.count ≡ run.count) → 1 ≤ run.count
      → ReadsForRuns c p s (given + 1) runs → ReadsForRuns c p s' given (run ∷ runs)
  reads-fronted p s s' io run given runs is for_it some f =
      let few = f.few_ios in
      subst (λ (z : Reads W). ReadsForRuns c p z given (run ∷ runs)) (sym is) (record {
        runs_in_flight = f.runs_in_flight;
        stream_ios = f.stream_ios;
        in_order = ap (λ (z : List Run). run ∷ z) f.in_order
            ∙ ap (λ (z : Run). z ∷ (map left_run s.ended.items ++ f.runs_in_flight
            ++ map (λ x. run_of x.1) s.batch))
            (sym (left-of-new io ∙ is-run io run for_it));
        not_empty = λ x j. ⊎_elim (λ same. subst (λ (z : Run). 1 ≤ z.count) same some)
            (λ behind. f.not_empty x behind) j;
        few_ios = omega arith;
      })

  -- a staged I/O was put into the batch
  pub reads-pushed : (p : Known) (s s' : Reads W) (x : WaitRef × ReadIoView) (run : Run)
      (given : ℕ) (runs : List Run) → s' ≡ record s { batch = s.batch ++ x ∷ [] }
      → (x.1.first ≡ run.first) × (x.1.count ≡ run.count) → 1 ≤ run.count
      → ReadsForRuns c p s given runs → ReadsForRuns c p s' given (runs ++ run ∷ [])
  reads-pushed p s s' x run given runs is for_it some f =
      let before : List Run = map left_run s.ended.items ++ f.runs_in_flight in
      let b : List Run = map (λ x. run_of x.1) s.batch in
      subst (λ (z : Reads W). ReadsForRuns c p z given (runs ++ run ∷ [])) (sym is) (record {
        runs_in_flight = f.runs_in_flight;
        stream_ios = f.stream_ios;
        in_order = ap (λ (z : List Run). z ++ run ∷ []) f.in_order
            ∙ (append_assoc before b (run ∷ [])
            ∙ (ap (λ (z : Run). before ++ (b ++ z ∷ [])) (sym (is-run x.1 run for_it))
            ∙ ap (λ (z : List Run). before ++ z)
            (sym (map-append (λ x. run_of x.1) s.batch (x ∷ [])))));
        not_empty = each-pushed (λ (z : Run). 1 ≤ z.count) runs run f.not_empty some;
        few_ios = f.few_ios;
      })

  -- nothing was started
  pub reads-none : (p : Known) (s : Reads W) → s.ended.items ≡ [] → s.in_flight.items ≡ []
      → s.batch ≡ [] → s.taken_in ≡ 0 → ReadsForRuns c p s 0 []
  reads-none p s ended in_flight batch none = record {
    runs_in_flight = [];
    stream_ios = rw in_flight tt;
    in_order = rw (ended, batch) refl;
    not_empty = λ run i. absurd i;
    few_ios = omega arith;
  }

  pub same_reads_refl : (p : Known) (s : Reads W) → SameReads c p p s s
  same_reads_refl p s = record {
    free = refl;
    records = refl;
    started = refl;
    runs = λ given runs f. f;
  }

  pub same_reads_then : (p q r : Known) (s s' s'' : Reads W) → SameReads c p q s s'
      → SameReads c q r s' s'' → SameReads c p r s s''
  same_reads_then p q r s s' s'' a b = record {
    free = b.free ∙ a.free;
    records = b.records ∙ a.records;
    started = b.started ∙ a.started;
    runs = λ given runs f. b.runs given runs (a.runs given runs f);
  }

  -- the actor knows more, and the reads are as they were
  pub same_reads_later : (p q : Known) (s : Reads W)
      → ((x : WaitRef × List ℕ) → IsIn x p.aims → IsIn x q.aims) → SameReads c p q s s
  same_reads_later p q s aims = record {
    free = refl;
    records = refl;
    started = refl;
    runs = λ given runs f. reads-later p q s s given runs aims refl refl refl refl f;
  }
