-- Calls that leave an owner's counts as they are: what was defined, taken and reclaimed.
use Rattle.std.proofs.Common.{◌≡◌, ◌≢◌, ℕ, ◌+◌, ◌*◌, ◌≤◌, List, [], ◌∷◌, ◌++◌, refl, sym, ap, ◌∙◌}
use Rattle.std.specs.Prelude.{None}
use Rattle.std.proofs.Common.{arith, append_assoc, append-nil, ◌==◌, ◌&&◌}
use Rattle.std.proofs.lemmas.List.Sums.{sum_by-append, sum_by-cons}
use Rattle.std.proofs.lemmas.Bool.Decides.{nat_tests}
use Rattle.aio_word.specs.declared.Kind.{Kind}
use Rattle.aio_word.specs.declared.Kind.TheVariants as kind
use Rattle.aio_word.specs.declared.Known.{Known}
use Rattle.aio_word.specs.declared.Mark.{Mark}
use Rattle.aio_word.specs.declared.Step.TheVariants as event
use Rattle.aio_word.specs.declared.Word.{Word}
use Rattle.aio_word.specs.declared.WaitRef.{WaitRef}
use Rattle.aio_word.specs.Events.{kind_place, make_mark, wait_ref, lives_ended, is_mark}
use Rattle.aio_word.specs.Stands.{one_if, IsIn}
use Rattle.read_stream.proofs.ActorAdvancedLaws.{aims-same, aims-more}
use Rattle.aio_word.proofs.MoreMarksKeep.{count_at_place, mark_count-more, mark_count-place}
use Rattle.aio_handle.specs.Execution.{ExecutesAll}
use Rattle.aio_handle.specs.CallEvents.{EventMade, WordLoaded}
use Rattle.read_stream.specs.ActorProgress.{local_mark_count}
use Rattle.read_stream.specs.declared.scope.Scope.{Scope}
use Rattle.read_stream.specs.StreamIos.{IsStreamActor, known_at_open}

-- the marks at one place over all incarnations, and at one place of one handle
pub locals-more : (ms more : List Mark)
    → local_mark_count (ms ++ more) ≡ local_mark_count ms + local_mark_count more
locals-more ms more = sum_by-append (λ m. one_if (kind_place m.kind == 6)) ms more

pub lives_ended-append : (h : ℕ) (ms more : List Mark)
    → lives_ended h (ms ++ more) ≡ lives_ended h ms + lives_ended h more
lives_ended-append h ms more =
    sum_by-append (λ m. one_if ((m.handle == h) && (kind_place m.kind == 7))) ms more

mark-counts : (m : Mark) (i : ℕ) (ms : List Mark)
    → count_at_place (wait_ref m.handle m.generation) i (m ∷ ms)
    ≡ one_if (is_mark m.handle (8 * m.generation + i) m) + count_at_place
    (wait_ref m.handle m.generation) i ms
mark-counts m i ms = sum_by-cons (λ x. one_if (is_mark m.handle (8 * m.generation + i) x)) m ms

here-one : (m : Mark) (i : ℕ) → kind_place m.kind ≡ i
    → one_if (is_mark m.handle (8 * m.generation + i) m) ≡ 1
here-one m i e = grind (arith, nat_tests)

none-behind : (t : WaitRef) (i : ℕ) (m : Mark) (ms : List Mark) → count_at_place t i (m ∷ ms) ≡ 0
    → count_at_place t i ms ≡ 0
none-behind t i m ms e =
    let c = sum_by-cons (λ x. one_if (is_mark t.handle (8 * t.generation + i) x)) m ms in
    omega arith

-- no incarnation has a mark at the place: so there is none
pub no-locals : (ms : List Mark) → ((t : WaitRef) → count_at_place t 6 ms ≡ 0) → local_mark_count ms
    ≡ 0
no-locals [] none = refl
no-locals (m ∷ ms) none =
    let i = no-locals ms (λ t. none-behind t 6 m ms (none t)) in
    let c = sum_by-cons (λ x. one_if (kind_place x.kind == 6)) m ms in
    let z = none (wait_ref m.handle m.generation) in
    let s = mark-counts m 6 ms in
    let not_here : kind_place m.kind ≢ 6 = λ e. (let h = here-one m 6 e in omega arith) in
    let zero_here : one_if (kind_place m.kind == 6) ≡ 0 = grind (arith, nat_tests) in
    omega arith

pub no-lives : (h : ℕ) (ms : List Mark) → ((t : WaitRef) → count_at_place t 7 ms ≡ 0)
    → lives_ended h ms ≡ 0
no-lives h [] none = refl
no-lives h (m ∷ ms) none =
    let i = no-lives h ms (λ t. none-behind t 7 m ms (none t)) in
    let c = sum_by-cons (λ x. one_if ((x.handle == h) && (kind_place x.kind == 7))) m ms in
    let z = none (wait_ref m.handle m.generation) in
    let s = mark-counts m 7 ms in
    let not_here : kind_place m.kind ≢ 7 = λ e. (let h = here-one m 7 e in omega arith) in
    let zero_here : one_if ((m.handle == h) && (kind_place m.kind == 7)) ≡ 0 =
    grind (arith, nat_tests) in
    omega arith

-- q has defined, taken and reclaimed as much as p
pub record OwnerCountsUnchanged (p q : Known) : Type 0 where
  pub number : q.number ≡ p.number
  pub config : q.config ≡ p.config
  pub defined : (t : WaitRef) → count_at_place t 0 q.marks ≡ count_at_place t 0 p.marks
  pub reclaimed : (t : WaitRef) → count_at_place t 7 q.marks ≡ count_at_place t 7 p.marks
  pub locals : local_mark_count q.marks ≡ local_mark_count p.marks
  pub lived : (h : ℕ) → lives_ended h q.marks ≡ lives_ended h p.marks
  pub more : List Mark
  pub grown : q.marks ≡ p.marks ++ more
  pub aims : (e : WaitRef × List ℕ) → IsIn e p.aims → IsIn e q.aims

pub owner-counts-then : (p q r : Known) → OwnerCountsUnchanged p q → OwnerCountsUnchanged q r
    → OwnerCountsUnchanged p r
owner-counts-then p q r a b = record {
  number = b.number ∙ a.number;
  config = b.config ∙ a.config;
  defined = λ t. b.defined t ∙ a.defined t;
  reclaimed = λ t. b.reclaimed t ∙ a.reclaimed t;
  locals = b.locals ∙ a.locals;
  lived = λ h. b.lived h ∙ a.lived h;
  more = a.more ++ b.more;
  grown = b.grown
      ∙ (ap (λ (z : List Mark). z ++ b.more) a.grown ∙ append_assoc p.marks a.more b.more);
  aims = λ e j. b.aims e (a.aims e j);
}

owner-counts-growing : (p q : Known) (more : List Mark) → q.number ≡ p.number → q.config ≡ p.config
    → q.marks ≡ p.marks ++ more
    → ((e : WaitRef × List ℕ) → IsIn e p.aims → IsIn e q.aims)
    → ((t : WaitRef) → count_at_place t 0 more ≡ 0) → ((t : WaitRef) → count_at_place t 6 more ≡ 0)
    → ((t : WaitRef) → count_at_place t 7 more ≡ 0) → OwnerCountsUnchanged p q
owner-counts-growing p q more number config marks aims none0 none6 none7 = record {
  number = number;
  config = config;
  defined = λ t. ap (λ (z : List Mark). count_at_place t 0 z) marks
      ∙ (let a = mark_count-more t 0 p.marks more in let b = none0 t in omega arith);
  reclaimed = λ t. ap (λ (z : List Mark). count_at_place t 7 z) marks
      ∙ (let a = mark_count-more t 7 p.marks more in let b = none7 t in omega arith);
  locals = ap local_mark_count marks
      ∙ (let a = locals-more p.marks more in let b = no-locals more none6 in omega arith);
  lived = λ h. ap (lives_ended h) marks
      ∙ (let a = lives_ended-append h p.marks more in let b = no-lives h more none7 in omega arith);
  more = more;
  grown = marks;
  aims = aims;
}

pub owner-counts-taking-up : (p q : Known) (a b c d : ℕ) → ExecutesAll [] p q a b c d
    → OwnerCountsUnchanged p q
owner-counts-taking-up p q a b c d k = owner-counts-growing p q k.more k.grows.number k.grows.config
    k.grows.marks k.grows.aims
    (λ t. let o = k.claims_completed.owners t in omega arith)
    (λ t. let o = k.claims_completed.owners t in omega arith)
    (λ t. let o = k.claims_completed.owners t in omega arith)

owner-counts-same : (p q : Known) → q.number ≡ p.number → q.config ≡ p.config → q.marks ≡ p.marks
    → q.aims ≡ p.aims → OwnerCountsUnchanged p q
owner-counts-same p q number config marks aims = owner-counts-growing p q [] number config
    (marks ∙ sym (append-nil p.marks)) (aims-same p q aims) (λ t. refl) (λ t. refl) (λ t. refl)

pub owner-counts-looking : (h : ℕ) (w : Word) (p q : Known) → WordLoaded h w p q
    → OwnerCountsUnchanged p q
owner-counts-looking h w p q l = owner-counts-same p q (ap (λ (z : Known). z.number) l.is)
    (ap (λ (z : Known). z.config) l.is) (ap (λ (z : Known). z.marks) l.is)
    (ap (λ (z : Known). z.aims) l.is)

owner-counts-mark : (t : WaitRef) (k : Kind) (p q : Known) → q.number ≡ p.number → q.config
    ≡ p.config → q.marks ≡ p.marks ++ make_mark t k ∷ []
    → ((e : WaitRef × List ℕ) → IsIn e p.aims → IsIn e q.aims) → kind_place k ≢ 0 → kind_place k ≢ 6
    → kind_place k ≢ 7 → OwnerCountsUnchanged p q
owner-counts-mark t k p q number config marks aims no0 no6 no7 =
    owner-counts-growing p q (make_mark t k ∷ []) number config marks aims
    (λ u. mark_count-place u t 0 k [] no0 (omega arith))
    (λ u. mark_count-place u t 6 k [] no6 (omega arith))
    (λ u. mark_count-place u t 7 k [] no7 (omega arith))

pub owner-counts-submitting : (h : ℕ) (w w' : Word) (aim : List ℕ) (p q : Known)
    → EventMade event.Submit h w w' aim p q → OwnerCountsUnchanged p q
owner-counts-submitting h w w' aim p q m = owner-counts-mark
    (wait_ref h w.generation) kind.Submitted p q
    (ap (λ (z : Known). z.number) m.is) (ap (λ (z : Known). z.config) m.is)
    (ap (λ (z : Known). z.marks) m.is)
    (aims-more p q (wait_ref h w.generation, aim) (ap (λ (z : Known). z.aims) m.is))
    (λ e. omega arith) (λ e. omega arith) (λ e. omega arith)

module _ {W : Type 0} (c : Scope W) where
  -- the actor of a stream has done more, and has taken in one more I/O or none
  pub stream-actor-later : (p q : Known) (taken taken' : ℕ) (more : List Mark)
      → q.number ≡ p.number → q.config ≡ p.config → q.out ≡ None → q.marks ≡ p.marks ++ more
      → local_mark_count q.marks + taken ≡ local_mark_count p.marks + taken'
      → ((h : ℕ) → lives_ended h q.marks + taken ≤ lives_ended h p.marks + taken')
      → IsStreamActor c taken p → IsStreamActor c taken' q
  stream-actor-later p q taken taken' more number config out grown locals lived a = record {
    number = number ∙ a.number;
    config = config ∙ a.config;
    nothing_handed_out = out;
    most_in_range = a.most_in_range;
    room_was = a.room_was;
    taken_in_count = let z = a.taken_in_count in omega arith;
    lives_bound = λ h. (let y = lived h in let z = a.lives_bound h in omega arith);
    marks_since_open = (
      a.marks_since_open.0 ++ more,
      grown ∙ (ap (λ (z : List Mark). z ++ more) a.marks_since_open.1
          ∙ append_assoc (known_at_open c).marks a.marks_since_open.0 more),
    );
  }

  pub stream-actor-kept : (p q : Known) (taken : ℕ) → OwnerCountsUnchanged p q → q.out ≡ None
      → IsStreamActor c taken p → IsStreamActor c taken q
  stream-actor-kept p q taken i out = stream-actor-later p q taken taken i.more i.number i.config
      out i.grown (let z = i.locals in omega arith) (λ h. (let z = i.lived h in omega arith))
