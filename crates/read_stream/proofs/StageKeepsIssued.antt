-- A new I/O of a stream, from a free handle to a staged token.
use Rattle.std.proofs.Common.{◌≡◌, ◌≢◌, ℕ, ◌+◌, ◌*◌, ◌<◌, ◌≤◌, ◌⊎◌, List, [], ◌∷◌, ◌++◌, length}
use Rattle.std.proofs.Common.{refl, ap, ◌∙◌, arith, append_assoc, subst, inl, inr, ⊎_elim}
use Rattle.std.specs.Prelude.{Some}
use mathlib.Core.Logic.{dite}
use Rattle.page_check.specs.declared.world.World.{Ghosts as WorldGhosts}
use native.Mathlib.Decide.{ℕ_discrete, dec_le}
use Rattle.aio_word.specs.declared.Kind.TheVariants as kind
use Rattle.aio_word.specs.declared.Known.{Known}
use Rattle.aio_word.specs.declared.Mark.{Mark}
use Rattle.aio_word.specs.declared.WaitRef.{WaitRef}
use Rattle.aio_word.specs.declared.Step.TheVariants as event
use Rattle.aio_word.specs.Events.{mark_count, lives_ended, make_mark, wait_ref}
use Rattle.aio_word.specs.Stands.{IsIn, seen_rank}
use Rattle.aio_word.specs.Tokens.{IsStaged, IsDefined, IsInFlight, MarksOnceAndSeen}
use Rattle.aio_word.proofs.MoreMarksKeep.{count_at_place, mark_count-more, mark_count-place}
use Rattle.aio_word.proofs.MoreMarksKeep.{mark_count-other}
use Rattle.aio_handle.specs.UnchangedTokens.{TokenUnchanged}
use Rattle.aio_handle.specs.LifeWords.{idle_word, handed_out_word, defined_word, staged_word}
use Rattle.aio_handle.specs.CallEvents.{EventMade}
use Rattle.aio_handle.proofs.TokensStay.{unchanged-unused, unchanged-by-define, unchanged-elsewhere}
use Rattle.aio_handle.proofs.LivesCounted.{lives_ended-same}
use Rattle.aio_handle.proofs.TokensStay.{unchanged-then}
use Rattle.aio_batch.proofs.StagedTokensKept.{staged_tokens-kept}
use Rattle.aio_callback.specs.ReadIoView.{ReadIoView, ReadsAs, record_aim, with_aim}
use Rattle.aio_callback.specs.StreamOutcomes.{stream_ids}
use Rattle.aio_callback.proofs.AimNamesRead.{reads-as}
use Rattle.read_stream.specs.declared.reads.Reads.{Reads}
use Rattle.read_stream.specs.declared.scope.Scope.{Scope}
use Rattle.read_stream.specs.StreamIos.{IssuedExcept, Issued, HandleHandedOut, staged_references}
use Rattle.read_stream.specs.StreamIos.{known_at_open, ios_started, IsStreamRecord}
use Rattle.read_stream.specs.ActorProgress.{ActorAdvanced, local_mark_count}
use Rattle.read_stream.proofs.ActorAdvancedLaws.{advanced_then, advanced_nothing, advanced_made}
use Rattle.read_stream.proofs.ActorAdvancedLaws.{aims-same}
use Rattle.read_stream.proofs.OwnerCountsKept.{locals-more, stream-actor-later}
use Rattle.read_stream.proofs.TakenInRecordKept.{taken-grown}
use Rattle.read_stream.proofs.InFlightUnchanged.{stream-ios-kept, stream-io-in}
use Rattle.read_stream.proofs.BatchPushKeepsIssued.{staged-of}

module _ {W : Type 0} (c : Scope W) (world : WorldGhosts W) where
  none-yet : (p q : Known) (t : WaitRef) → MarksOnceAndSeen (seen_rank p) p.marks
      → EventMade event.HandOut t.handle (idle_word t.generation)
      (handed_out_word t.generation) [] p q
      → (i : ℕ) → count_at_place t i p.marks ≡ 0
  none-yet p q t keeps made i = dite (dec_le (count_at_place t i p.marks) 0) (λ z. omega arith)
      (λ n. absurd (let b = keeps.below t.handle (8 * t.generation + i) (omega arith) in
      let m = made.before in omega arith))

  -- a handle was handed out
  pub handed-out-now : (p q : Known) (s : Reads W) (t : WaitRef) (reads faults : ℕ)
      → MarksOnceAndSeen (seen_rank p) p.marks → MarksOnceAndSeen (seen_rank q) q.marks
      → EventMade event.HandOut t.handle (idle_word t.generation)
      (handed_out_word t.generation) [] p q
      → q.out ≡ Some t → Issued c world p s
      → HandleHandedOut c world p q reads reads faults faults s t
  handed-out-now p q s t reads faults kp kq made out i = record {
    before = p;
    actor_advanced = advanced_nothing p reads faults;
    issued = i;
    hand_out_event = made;
    token = out;
    is_new = λ k lt.
        let n = none-yet p q t kp made k in
        let g : count_at_place t k p.marks ≡ count_at_place t k
        ((known_at_open c).marks ++ i.actor.marks_since_open.0) =
        ap (count_at_place t k) i.actor.marks_since_open.1 in
        let m = mark_count-more t k (known_at_open c).marks i.actor.marks_since_open.0 in omega arith;
    marks_once = kq;
  }

  pub handed-out-later : (p m q : Known) (s : Reads W) (t : WaitRef) (a b d a' b' d' : ℕ)
      → ActorAdvanced p m a b a' b' → HandleHandedOut c world m q b d b' d' s t
      → HandleHandedOut c world p q a d a' d' s t
  handed-out-later p m q s t a b d a' b' d' w h = record {
    before = h.before;
    actor_advanced = advanced_then p m h.before a b d a' b' d' w h.actor_advanced;
    issued = h.issued;
    hand_out_event = h.hand_out_event;
    token = h.token;
    is_new = h.is_new;
    marks_once = h.marks_once;
  }

  -- how far the actor advanced with it
  pub advanced-handed-out : (p q : Known) (s : Reads W) (t : WaitRef) (a b d e : ℕ)
      → HandleHandedOut c world p q a b d e s t → ActorAdvanced p q a b d e
  advanced-handed-out p q s t a b d e h = advanced_then p h.before q a b b d e e h.actor_advanced
      (advanced_made event.HandOut t.handle (idle_word t.generation)
      (handed_out_word t.generation) [] h.before q
      b e tt h.hand_out_event)

  module _ (p q q1 q2 : Known) (s : Reads W) (t : WaitRef) (a b d e : ℕ)
      (h : HandleHandedOut c world p q a b d e s t)
      (define : EventMade event.Define t.handle (handed_out_word t.generation)
      (defined_word t.generation) [] q q1)
      (is-defined : IsDefined q1 t)
      (stage : EventMade event.Stage t.handle (defined_word t.generation)
      (staged_word t.generation) [] q1 q2)
    where
      abbrev o : Known
      o = h.before

      pub advanced-defined : ActorAdvanced q q2 b b e e
      advanced-defined = advanced_then q q1 q2 b b b e e e
          (advanced_made event.Define t.handle (handed_out_word t.generation)
          (defined_word t.generation) [] q q1
          b e tt define)
          (advanced_made event.Stage t.handle (defined_word t.generation)
          (staged_word t.generation) [] q1 q2
          b e tt stage)

      pub advanced-staged : ActorAdvanced p q2 a b d e
      advanced-staged = advanced_then p q q2 a b b d e e (advanced-handed-out p q s t a b d e h)
          advanced-defined

      aims-handed : (e : WaitRef × List ℕ) → IsIn e o.aims → IsIn e q.aims
      aims-handed = aims-same o q (ap (λ (z : Known). z.aims) h.hand_out_event.is)

      marks-o : q.marks ≡ o.marks
      marks-o = ap (λ (z : Known). z.marks) h.hand_out_event.is

      marks-1 : q1.marks ≡ o.marks ++ make_mark t kind.Defined ∷ []
      marks-1 = ap (λ (z : Known). z.marks) define.is
          ∙ ap (λ (z : List Mark). z ++ make_mark t kind.Defined ∷ []) marks-o

      marks-2 : q2.marks ≡ (o.marks ++ make_mark t kind.Defined ∷ []) ++ make_mark t kind.Staged
          ∷ []
      marks-2 = ap (λ (z : Known). z.marks) stage.is
          ∙ ap (λ (z : List Mark). z ++ make_mark t kind.Staged ∷ []) marks-1

      grown : q2.marks ≡ o.marks ++ (make_mark t kind.Defined ∷ make_mark t kind.Staged ∷ [])
      grown = marks-2
          ∙ append_assoc o.marks (make_mark t kind.Defined ∷ []) (make_mark t kind.Staged ∷ [])

      to-q1 : (u : WaitRef) → TokenUnchanged u o q1
      to-q1 u = unchanged-then u o q q1
          (unchanged-unused u event.HandOut t.handle (idle_word t.generation)
          (handed_out_word t.generation) [] o q
          h.hand_out_event (λ x. x))
          (unchanged-by-define u t.handle t.generation [] q q1 h.marks_once define)

      to-q2 : (u : WaitRef) → u ≢ t → TokenUnchanged u o q2
      to-q2 u ne = unchanged-then u o q1 q2 (to-q1 u)
          (unchanged-elsewhere u event.Stage t.handle (defined_word t.generation)
          (staged_word t.generation) [] q1
          q2 stage ne)

      staged-else : (u : WaitRef) → IsStaged o u → u ≢ t
      staged-else u st same =
          (let f = ((to-q1 u).staged st).since in
          let g = subst (λ (z : WaitRef). 0 < mark_count z kind.Staged q1.marks) same f in
          let y = is-defined.until in omega arith)

      in-flight-else : (u : WaitRef) → IsInFlight o u → u ≢ t
      in-flight-else u st same =
          (let f = ((to-q1 u).in_flight st).since in
          let g = subst (λ (z : WaitRef). 0 < mark_count z kind.Submitted q1.marks) same f in
          let y = is-defined.until in omega arith)

      pub staged-apart : (u : WaitRef × ReadIoView) → IsIn u s.batch → u.0 ≢ t
      staged-apart u j = staged-else u.0 (staged-of o s.batch u h.issued.tokens.staged_tokens j)

      same-reclaimed : (x : WaitRef) → count_at_place x 7 q2.marks ≡ count_at_place x 7 o.marks
      same-reclaimed x = ap (count_at_place x 7) marks-2
          ∙ (mark_count-place x t 7 kind.Staged (o.marks ++ make_mark t kind.Defined ∷ [])
          (λ n. omega arith)
          (omega arith)
          ∙ mark_count-place x t 7 kind.Defined o.marks (λ n. omega arith) (omega arith))

      same-defined : (x : WaitRef) → (t.handle ≢ x.handle) ⊎ (t.generation ≢ x.generation)
          → count_at_place x 0 q2.marks ≡ count_at_place x 0 o.marks
      same-defined x ne = ap (count_at_place x 0) marks-2
          ∙ (mark_count-place x t 0 kind.Staged (o.marks ++ make_mark t kind.Defined ∷ [])
          (λ n. omega arith)
          (omega arith)
          ∙ mark_count-other x t 0 kind.Defined o.marks ne (omega arith))

      same-locals : local_mark_count q2.marks ≡ local_mark_count o.marks
      same-locals =
          let g : local_mark_count q2.marks ≡ local_mark_count
          (o.marks ++ (make_mark t kind.Defined ∷ make_mark t kind.Staged ∷ [])) =
          ap local_mark_count grown in
          let m = locals-more o.marks (make_mark t kind.Defined ∷ make_mark t kind.Staged ∷ []) in
          let z : local_mark_count (make_mark t kind.Defined ∷ make_mark t kind.Staged ∷ [])
          ≡ 0 = refl in
          omega arith

      same-lives : (i : ℕ) → lives_ended i q2.marks ≡ lives_ended i o.marks
      same-lives i = ap (lives_ended i) marks-2
          ∙ (lives_ended-same i t.handle t.generation kind.Staged
          (o.marks ++ make_mark t kind.Defined ∷ [])
          (λ n. omega arith)
          ∙ lives_ended-same i t.handle t.generation kind.Defined o.marks (λ n. omega arith))

      same-ref : (x : WaitRef) → t.handle ≡ x.handle → t.generation ≡ x.generation → t ≡ x
      same-ref x h' g' = ap (λ (z : ℕ). wait_ref z t.generation) h'
          ∙ ap (λ (z : ℕ). wait_ref x.handle z) g'

      owed-staged : (x : WaitRef)
          → (mark_count x kind.Defined o.marks ≤ mark_count x kind.Reclaimed o.marks)
          ⊎ IsIn x (staged_references s.batch ++ s.in_flight.items)
          → (mark_count x kind.Defined q2.marks ≤ mark_count x kind.Reclaimed q2.marks)
          ⊎ IsIn x ((t ∷ []) ++ staged_references s.batch ++ s.in_flight.items)
      owed-staged x old = dite (ℕ_discrete t.handle x.handle)
          (λ eh. dite (ℕ_discrete t.generation x.generation)
          (λ eg. inr (inl (same-ref x eh eg)))
          (λ ng. other (inr ng)))
          (λ nh. other (inl nh))
        where
          other : (t.handle ≢ x.handle) ⊎ (t.generation ≢ x.generation)
              → (mark_count x kind.Defined q2.marks ≤ mark_count x kind.Reclaimed q2.marks)
              ⊎ IsIn x ((t ∷ []) ++ staged_references s.batch ++ s.in_flight.items)
          other ne = ⊎_elim
              (λ over. let f = same-defined x ne in let g = same-reclaimed x in inl (omega arith))
              (λ j. inr (inr j)) old

      pub issued-staged : ios_started s + 1 ≤ c.most.value
          → IssuedExcept (t ∷ []) c world q2 s
      issued-staged most =
          let i = h.issued in record {
            room = i.room;
            count_within = i.count_within;
            within_most = omega arith;
            actor = stream-actor-later c o q2 s.taken_in s.taken_in
                (make_mark t kind.Defined ∷ make_mark t kind.Staged ∷ [])
                (ap (λ (z : Known). z.number) stage.is ∙ (ap (λ (z : Known). z.number) define.is
                ∙ ap (λ (z : Known). z.number) h.hand_out_event.is))
                (ap (λ (z : Known). z.config) stage.is ∙ (ap (λ (z : Known). z.config) define.is
                ∙ ap (λ (z : Known). z.config) h.hand_out_event.is))
                (ap (λ (z : Known). z.out) stage.is ∙ ap (λ (z : Known). z.out) define.is) grown
                (let f = same-locals in omega arith)
                (λ k. (let f = same-lives k in omega arith)) i.actor;
            records = record {
              free = i.records.free;
              ended_records = λ x j. taken-grown c world o q2
                  (make_mark t kind.Defined ∷ make_mark t kind.Staged ∷ []) x.io grown
                  (λ e j'. advanced-defined.aims e (aims-handed e j'))
                  (i.records.ended_records x j);
            };
            tokens = record {
              staged_tokens = staged_tokens-kept o q2 s.batch
                  (λ u j. to-q2 u.0 (staged-apart u j)) i.tokens.staged_tokens;
              staged_ios = i.tokens.staged_ios;
              stream_ios = stream-ios-kept c o q2 s.in_flight.items
                  (λ u j. to-q2 u (in-flight-else u
                  (stream-io-in c o s.in_flight.items u i.tokens.stream_ios j).in_flight))
                  i.tokens.stream_ios;
              unreclaimed_ios = λ x. owed-staged x (i.tokens.unreclaimed_ios x);
            };
          }

-- a record that was aimed, and then bound
pub aimed-as : {W : Type 0} (c : Scope W) (io x y : ReadIoView) (first count : ℕ)
    → x ≡ with_aim c.relation first count c.rules.checksums (stream_ids c.rules.damaged) io → length io.pages ≡ c.combine
    → record_aim y ≡ record_aim x → IsStreamRecord c y × (y.first ≡ first) × (y.count ≡ count)
aimed-as c io x y first count is room same =
    let r : ReadsAs y x = reads-as y x same in (
      record {
        ids = r.ids ∙ ap (λ (z : ReadIoView). z.ids) is;
        checksums = r.checksums ∙ ap (λ (z : ReadIoView). z.checksums) is;
        relation = r.relation ∙ ap (λ (z : ReadIoView). z.relation) is;
        room = r.room ∙ (ap (λ (z : ReadIoView). length z.pages) is ∙ room);
      },
      r.first ∙ ap (λ (z : ReadIoView). z.first) is,
      r.count ∙ ap (λ (z : ReadIoView). z.count) is,
    )
