-- A group in which one more I/O has ended.
use Rattle.std.proofs.Common.{◌≡◌, ◌≢◌, ℕ, ◌+◌, ◌<◌, ◌≤◌, ◌==◌, ◌⊎◌, Bool, true, false, cond, List}
use Rattle.std.proofs.Common.{[], ◌∷◌, ◌++◌, map, length, Option, Some, None, refl, sym, ap, ◌∙◌}
use Rattle.std.proofs.Common.{subst, inl, inr, ⊎_elim, arith, rules, append-nil, append_assoc}
use Rattle.std.proofs.Common.{length-append}
use Rattle.std.proofs.lemmas.List.{map-append}
use Rattle.page_check.specs.Told.{Told}
use Rattle.aio_disk.specs.Counts.{CountRose, count_plus}
use Rattle.aio_word.specs.declared.Class.{Class}
use Rattle.aio_word.specs.declared.Class.TheVariants as class
use Rattle.aio_word.specs.declared.Known.{Known}
use Rattle.aio_word.specs.declared.Mark.{Mark}
use Rattle.aio_word.specs.declared.WaitRef.{WaitRef}
use Rattle.aio_word.specs.declared.Kind.TheVariants as kind
use Rattle.aio_word.specs.Stands.{IsIn}
use Rattle.aio_word.specs.Tokens.{AppendsMarks, io_mark_count, failed_mark_count, make_mark}
use Rattle.aio_word.proofs.MoreMarksKeep.{count_at_place, mark_count-more, io-more, failed-more}
use Rattle.aio_handle.specs.Execution.{last_count, ExecutesAll}
use Rattle.aio_handle.proofs.ListsGrow.{appends-then}
use Rattle.read_callbacks.specs.Chain.{class_of}
use Rattle.read_callbacks.specs.declared.chain.Raw.{Raw}
use Rattle.read_callbacks.specs.declared.chain.Raw.TheVariants.{Read, Failed}
use Rattle.aio_callback.specs.ReadIoView.{ReadIoView, record_aim}
use Rattle.read_callbacks.specs.Finishes.{Finish, FinishesGrew}
use Rattle.aio_callback.specs.Finishes.{all_finishes, record_reference}
use Rattle.method_ring.specs.ClaimedIos.{ClaimedIo, claimed_mark, without_claimed}
use Rattle.method_ring.specs.Group.{PickedFrom}
use Rattle.method_ring.specs.RingRunner.{group_claims, end_marks, all_end_marks, group_finishes}
use Rattle.method_ring.specs.RingRunner.{read_claim_mark, RunsGroup}
use Rattle.method_ring.specs.RingRunner.{ReadCompletedAs, CompletesClaimedIo, CompletesGroup}
use Rattle.method_ring.proofs.NumberedLookup.{in-pushed, in-held, in-without, one-fewer}
use Rattle.method_ring.proofs.NumberedLookup.{claims-without}
use Rattle.method_ring.proofs.GroupMarks.{claims-io, claims-failed, ends-count, took-all}

-- one more at the end
ends-push : (rs : List ReadIoView) (r : ReadIoView)
    → all_end_marks (rs ++ r ∷ []) ≡ all_end_marks rs ++ end_marks r
ends-push [] r = refl
ends-push (s ∷ rs) r = ap (λ (ms : List Mark). end_marks s ++ ms) (ends-push rs r)
    ∙ sym (append_assoc (end_marks s) (all_end_marks rs) (end_marks r))

all_finishes-push : (rs : List ReadIoView) (r : ReadIoView)
    → group_finishes (rs ++ r ∷ []) ≡ group_finishes rs ++ all_finishes r
all_finishes-push [] r = append-nil (all_finishes r)
all_finishes-push (s ∷ rs) r = ap (λ (fs : List Finish). all_finishes s ++ fs)
    (all_finishes-push rs r)
    ∙ sym (append_assoc (all_finishes s) (group_finishes rs) (all_finishes r))

grew-then : (a b c : Option (List Finish)) (xs ys : List Finish) → FinishesGrew a b xs
    → FinishesGrew b c ys
    → FinishesGrew a c (xs ++ ys)
grew-then None b c xs ys e f = subst (λ z. FinishesGrew z c ys) e f
grew-then (Some before) b c xs ys e f =
    subst (λ z. FinishesGrew z c ys) e f ∙ ap Some (append_assoc before xs ys)

whole-or-short : (b : Bool) → cond b class.Whole class.Short ≢ class.Failed
whole-or-short true e = search rules
whole-or-short false e = search rules

-- a read that has ended Failed was answered so
failed-answer : (count : ℕ) (raw : Raw) → class_of count raw ≡ class.Failed → raw ≡ Failed
failed-answer count (Read n) e = absurd (whole-or-short (n == count) e)
failed-answer count Failed e = refl

few-failed : (c : Class) (t : WaitRef) → (c ≢ class.Failed)
    → failed_mark_count (make_mark t (kind.Io c) ∷ make_mark t kind.Shared ∷ []) ≡ 0
few-failed class.Unended t ne = refl
few-failed class.Whole t ne = refl
few-failed class.Short t ne = refl
few-failed class.Failed t ne = absurd (ne refl)

one-failed : (c : Class) (t : WaitRef)
    → failed_mark_count (make_mark t (kind.Io c) ∷ make_mark t kind.Shared ∷ []) ≤ 1
one-failed class.Unended t = omega arith
one-failed class.Whole t = omega arith
one-failed class.Short t = omega arith
one-failed class.Failed t = omega arith

is-failed : (c : Class) → (c ≡ class.Failed) ⊎ (c ≢ class.Failed)
is-failed class.Unended = inr (λ e. search rules)
is-failed class.Whole = inr (λ e. search rules)
is-failed class.Short = inr (λ e. search rules)
is-failed class.Failed = inl refl

-- the failed mark of an end is paid by one fault
pays-end : (r : ReadIoView) (faults faults' : ℕ) → faults ≤ faults'
    → (r.label.ended ≡ class.Failed → CountRose faults faults') → faults' < last_count
    → faults + failed_mark_count (end_marks r) ≤ faults'
pays-end r faults faults' later failed lt = ⊎_elim
    (λ e. let one = one-failed r.label.ended (record_reference r) in let rose = failed e
    in omega arith)
    (λ n. let none = few-failed r.label.ended (record_reference r) n in omega arith)
    (is-failed r.label.ended)

rose-later : (a b c : ℕ) → CountRose a b → b ≤ c → CountRose a c
rose-later a b c r le = omega arith

rose-before : (a b c : ℕ) → a ≤ b → CountRose b c → CountRose a c
rose-before a b c le r = omega arith

raised-more : (n a b c : ℕ) → b ≡ count_plus n a → c ≡ count_plus 1 b → c ≡ count_plus (n + 1) a
raised-more n a b c e f = omega arith

module _ (told : Option Told) (held held' held'' : List ClaimedIo) (p q r : Known)
    (before now after : Option (List Finish)) (x : WaitRef × ReadIoView) (raw : Raw)
    (reads reads' reads'' faults faults' faults'' : ℕ)
    (f : CompletesGroup told held held' p q before now reads reads' faults faults')
    (k : PickedFrom told held' held'' x raw reads' reads'' faults' faults'')
    (e : ReadCompletedAs told x.0 (record_aim x.1) (class_of x.1.count raw) q r now after) where
  abbrev more : List ReadIoView
  more = f.ended_records ++ e.read_io ∷ []

  is-from : record_reference e.read_io ≡ k.from.1.0
  is-from = e.reference_is ∙ k.reference_is

  rose : e.read_io.label.ended ≡ class.Failed → CountRose faults' faults''
  rose is = k.failure_counted (failed-answer x.1.count raw (sym e.class_is ∙ is))

  each-more : (s : ReadIoView) → IsIn s more → CompletesClaimedIo told held s
  each-more s i = ⊎_elim (λ old. f.each_ended s old)
      (λ (is : e.read_io ≡ s). subst (λ (z : ReadIoView). CompletesClaimedIo told held z) is
      (record {
        completed_read = e.completed_read;
        claimed_io = k.from;
        was_claimed = f.still_claimed k.from (in-held k.user held' k.from k.was_claimed);
        reference_is = is-from;
        aim_is = e.aim_is ∙ k.aim;
      })) (in-pushed f.ended_records e.read_io s i)

  once-more : (t : WaitRef) → count_at_place t 3 (group_claims held)
      ≡ count_at_place t 3 (map read_claim_mark more) + count_at_place t 3 (group_claims held'')
  once-more t =
      let a = f.once t in
      let b = claims-without t k.user held' k.from k.was_claimed in
      let c : count_at_place t 3 (group_claims held'') ≡ count_at_place t 3
      (group_claims (without_claimed k.user held')) =
      ap (λ (h : List ClaimedIo). count_at_place t 3 (group_claims h)) k.others in
      let d : count_at_place t 3 (map read_claim_mark more)
      ≡ count_at_place t 3 (map read_claim_mark f.ended_records ++ read_claim_mark e.read_io ∷ []) =
      ap (λ (ms : List Mark). count_at_place t 3 ms) (map-append read_claim_mark f.ended_records
      (e.read_io ∷ [])) in
      let g = mark_count-more t 3 (map read_claim_mark f.ended_records) (read_claim_mark e.read_io
      ∷ []) in
      let h : count_at_place t 3 (read_claim_mark e.read_io ∷ [])
      ≡ count_at_place t 3 (claimed_mark k.from ∷ []) =
      ap (λ (z : WaitRef). count_at_place t 3 (make_mark z kind.Claimed ∷ [])) is-from in
      omega arith

  failed-more-once : (s : ReadIoView) → IsIn s more → s.label.ended ≡ class.Failed
      → CountRose faults faults''
  failed-more-once s i is = ⊎_elim
      (λ old. rose-later faults faults' faults'' (f.failures_counted s old is) k.faults_not_reduced)
      (λ (same : e.read_io ≡ s). rose-before faults faults' faults'' f.faults_not_reduced
      (rose (ap (λ (z : ReadIoView). z.label.ended) same ∙ is)))
      (in-pushed f.ended_records e.read_io s i)

  -- one more has ended
  pub all_finishes-more : CompletesGroup told held held'' p r before after reads reads'' faults
      faults''
  all_finishes-more = record {
    ended_records = more;
    each_ended = each-more;
    once = once-more;
    still_claimed = λ y i. f.still_claimed y (in-without k.user held' y
        (subst (λ (h : List ClaimedIo). IsIn y h) k.others i));
    count =
        let a = f.count in let b = one-fewer k.user held' k.from k.was_claimed in
        let c : length held'' ≡ length (without_claimed k.user held') = ap length k.others in
        let d : length more ≡ length f.ended_records + 1 = length-append f.ended_records (e.read_io
        ∷ []) in
        omega arith;
    marks_grow = subst (λ (ms : List Mark). AppendsMarks p r ms) (sym (ends-push f.ended_records
        e.read_io))
        (appends-then p q r (all_end_marks f.ended_records) (end_marks e.read_io) f.marks_grow
        e.marks_grow);
    finishes_grow = subst (λ (fs : List Finish). FinishesGrew before after fs)
        (sym (all_finishes-push f.ended_records e.read_io))
        (grew-then before now after (group_finishes f.ended_records) (all_finishes e.read_io)
        f.finishes_grow
        e.finishes_grow);
    reads_counted =
        let d : length more ≡ length f.ended_records + 1 = length-append f.ended_records (e.read_io
        ∷ []) in
        raised-more (length f.ended_records) reads reads' reads'' f.reads_counted k.read_counted
        ∙ ap (λ (n : ℕ). count_plus n reads) (sym d);
    faults_not_reduced = let a = f.faults_not_reduced in let b = k.faults_not_reduced in omega
        arith;
    fault_each = λ lt.
        let later = k.faults_not_reduced in
        let a = f.fault_each (omega arith) in
        let b = pays-end e.read_io faults' faults'' k.faults_not_reduced rose lt in
        let c : failed_mark_count (all_end_marks more)
        ≡ failed_mark_count (all_end_marks f.ended_records)
        + failed_mark_count (end_marks e.read_io) =
        ap (λ (ms : List Mark). failed_mark_count ms) (ends-push f.ended_records e.read_io)
        ∙ failed-more (all_end_marks f.ended_records) (end_marks e.read_io) in
        omega arith;
    failures_counted = failed-more-once;
  }

grew-none : (a : Option (List Finish)) → FinishesGrew a a []
grew-none None = refl
grew-none (Some fs) = ap Some (sym (append-nil fs))

-- nothing has ended yet
pub all_finishes-none : (told : Option Told) (held : List ClaimedIo) (p : Known)
    (before : Option (List Finish)) (reads faults : ℕ) → AppendsMarks p p []
    → CompletesGroup told held held p p before before reads reads faults faults
all_finishes-none told held p before reads faults g = record {
  ended_records = [];
  each_ended = λ r i. absurd i;
  once = λ t. omega arith;
  still_claimed = λ x i. i;
  count = omega arith;
  marks_grow = g;
  finishes_grow = grew-none before;
  reads_counted = omega arith;
  faults_not_reduced = omega arith;
  fault_each = λ lt. omega arith;
  failures_counted = λ r i. absurd i;
}

-- what a runner takes up
pub takes-group : (told : Option Told) (given : WaitRef × ReadIoView) (p q : Known)
    (before after : Option (List Finish)) (reads reads' faults faults' : ℕ)
    → RunsGroup told given p q before after reads reads' faults faults'
    → ExecutesAll (make_mark given.0 kind.Claimed ∷ []) p q reads reads' faults faults'
takes-group told given p q before after reads reads' faults faults' g =
    let f = g.ends in
    let all : List ClaimedIo = (0, given) ∷ g.others in
    let none : length f.ended_records ≡ length all = let c = f.count in omega arith in
    let once : (t : WaitRef) → count_at_place t 3 (group_claims all)
    ≡ count_at_place t 3 (map read_claim_mark f.ended_records)
    =
    λ t. let o = f.once t in let z : count_at_place t 3 (group_claims []) ≡ 0 = refl in
    omega arith in
    let ios : io_mark_count (group_claims g.others ++ all_end_marks f.ended_records)
    ≡ length f.ended_records =
    let a = io-more (group_claims g.others) (all_end_marks f.ended_records) in
    let b = claims-io g.others in let c = ends-count f.ended_records in omega arith in
    let fails : failed_mark_count (group_claims g.others ++ all_end_marks f.ended_records)
    ≡ failed_mark_count (all_end_marks f.ended_records) =
    let a = failed-more (group_claims g.others) (all_end_marks f.ended_records) in
    let b = claims-failed g.others in omega arith in
    record {
      more = group_claims g.others ++ all_end_marks f.ended_records;
      grows = appends-then p g.known_between q (group_claims g.others) (all_end_marks
          f.ended_records) g.claims
          f.marks_grow;
      claims_completed = took-all all f.ended_records once (sym none);
      counters_follow = record {
        read_each = λ lt. let r = f.reads_counted in omega arith;
        fault_each = λ lt. let r = f.fault_each lt in omega arith;
      };
    }
