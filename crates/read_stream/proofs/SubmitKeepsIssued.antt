-- The state of a stream's I/Os, over the calls of their actor.
use Rattle.std.proofs.Common.{◌≡◌, ◌≢◌, ℕ, ◌+◌, ◌<◌, ◌≤◌, List, [], ◌∷◌, ◌++◌, length, refl, sym}
use Rattle.std.proofs.Common.{ap, ◌∙◌, arith, subst, inl, inr, ⊎_elim, length-append}
use Rattle.std.specs.Prelude.{None}
use Rattle.page_check.specs.declared.world.World.{Ghosts as WorldGhosts}
use Rattle.aio_word.specs.declared.Kind.TheVariants as kind
use Rattle.aio_word.specs.declared.Known.{Known}
use Rattle.aio_word.specs.declared.WaitRef.{WaitRef}
use Rattle.aio_word.specs.Events.{mark_count}
use Rattle.aio_word.specs.Stands.{IsIn}
use Rattle.aio_word.specs.Tokens.{IsStaged}
use Rattle.aio_word.proofs.ReplacedElement.{in-append, in-left, in-right}
use Rattle.aio_handle.specs.UnchangedTokens.{TokenUnchanged}
use Rattle.aio_handle.specs.Execution.{ExecutesAll}
use Rattle.aio_handle.specs.LifeWords.{staged_word, unclaimed_word}
use Rattle.aio_handle.proofs.TokensStay.{unchanged-by-execution}
use Rattle.aio_batch.specs.StagedTokens.{AreStagedTokens}
use Rattle.aio_batch.specs.NextSubmission.{IsNextSubmission}
use Rattle.aio_batch.proofs.StagedTokensKept.{staged_tokens-kept, submission-keeps}
use Rattle.aio_callback.specs.ReadIoView.{ReadIoView, record_aim}
use Rattle.circular_buffer.specs.Buffer.{Buffer, buffer}
use Rattle.read_stream.specs.declared.reads.EndedRead.{EndedRead}
use Rattle.read_stream.specs.declared.reads.Reads.{Reads}
use Rattle.read_stream.specs.declared.scope.Scope.{Scope}
use Rattle.read_stream.specs.ActorProgress.{AllSubmitted}
use Rattle.read_stream.specs.StreamIos.{ReadsBlocks, IsStreamRecord, IsNewIncarnation, Issued}
use Rattle.read_stream.specs.StreamIos.{IssuedExcept, HeldByCaller, IsStreamIo, staged_references}
use Rattle.read_stream.specs.StreamIos.{record_count}
use Rattle.read_stream.proofs.OwnerCountsKept.{OwnerCountsUnchanged, owner-counts-then}
use Rattle.read_stream.proofs.OwnerCountsKept.{owner-counts-taking-up, owner-counts-submitting}
use Rattle.read_stream.proofs.OwnerCountsKept.{stream-actor-kept}
use Rattle.read_stream.proofs.TakenInRecordKept.{taken-later}
use Rattle.read_stream.proofs.InFlightUnchanged.{stream-ios-kept, stream-io-in, stream-ios-push}
use Rattle.read_stream.proofs.BatchPushKeepsIssued.{issued-put}

pub in-references : (u : WaitRef × ReadIoView) (xs : List (WaitRef × ReadIoView)) → IsIn u xs
    → IsIn u.0 (staged_references xs)
in-references u [] i = absurd i
in-references u (x ∷ xs) i =
    ⊎_elim (λ e. inl (ap (λ (z : WaitRef × ReadIoView). z.0) e)) (λ j. inr (in-references u xs j)) i

pub is-none : {A : Type 0} (xs : List A) → length xs ≤ 0 → xs ≡ []
is-none [] le = refl
is-none (x ∷ xs) le = absurd (omega arith)

module _ {W : Type 0} (c : Scope W) where
  pub issued-kept : (caller_refs : List WaitRef) (world : WorldGhosts W) (p q : Known)
      (s : Reads W) → OwnerCountsUnchanged p q → q.out ≡ None
      → ((t : WaitRef) → IsIn t (staged_references s.batch ++ s.in_flight.items)
      → TokenUnchanged t p q)
      → IssuedExcept caller_refs c world p s
      → IssuedExcept caller_refs c world q s
  issued-kept caller_refs world p q s i out kept k = record {
    room = k.room;
    count_within = k.count_within;
    within_most = k.within_most;
    actor = stream-actor-kept c p q s.taken_in i out k.actor;
    records = record {
      free = k.records.free;
      ended_records = λ r j. taken-later c world p q r.io i (k.records.ended_records r j);
    };
    tokens = record {
      staged_tokens = staged_tokens-kept p q s.batch
          (λ u j. kept u.0 (in-left u.0 (staged_references s.batch) s.in_flight.items
          (in-references u s.batch j))) k.tokens.staged_tokens;
      staged_ios = k.tokens.staged_ios;
      stream_ios = stream-ios-kept c p q s.in_flight.items
          (λ t j. kept t (in-right t (staged_references s.batch) s.in_flight.items j))
          k.tokens.stream_ios;
      unreclaimed_ios = λ t. ⊎_elim
          (λ over. let a = i.defined t in let b = i.reclaimed t in inl (omega arith))
          (λ j. inr j) (k.tokens.unreclaimed_ios t);
    };
  }

  pub issued-taking-up : (caller_refs : List WaitRef) (world : WorldGhosts W)
      (p q : Known) (s : Reads W) (a b d e : ℕ) → ExecutesAll [] p q a b d e
      → IssuedExcept caller_refs c world p s
      → IssuedExcept caller_refs c world q s
  issued-taking-up caller_refs world p q s a b d e k i =
      issued-kept caller_refs world p q s (owner-counts-taking-up p q a b d e k)
      (k.grows.out ∙ i.actor.nothing_handed_out) (λ t j. unchanged-by-execution t [] p q a b d e k) i

  -- one I/O of the batch was submitted, and its token lies with the caller
  pub issued-lent : (world : WorldGhosts W) (p q : Known)
      (s : Reads W) (after : List (WaitRef × ReadIoView)) (t : WaitRef) (a b d e : ℕ)
      → IsNextSubmission record_aim s.batch after t p q a b d e → AreStagedTokens q after
      → IssuedExcept [] c world p s
      → HeldByCaller c world q (record s { batch = after }) t
  issued-lent world p q s after t a b d e n held k =
      let xs : List (WaitRef × ReadIoView) = n.token ∷ after in
      let was : AreStagedTokens p xs =
      subst (λ (z : List (WaitRef × ReadIoView)). AreStagedTokens p z) n.first k.tokens.staged_tokens in
      let staged-t : IsStaged p t =
      subst (λ (z : WaitRef). IsStaged p z) (sym n.reference) was.0 in
      let stage-since = staged-t.since in
      let stage-until = staged-t.until in
      let i : OwnerCountsUnchanged p q = owner-counts-then p n.between q
      (owner-counts-submitting t.handle (staged_word t.generation) (unclaimed_word t.generation)
      (record_aim n.token.1) p n.between n.event_made)
      (owner-counts-taking-up n.between q a b d e n.begun) in
      let out : q.out ≡ None = n.begun.grows.out ∙ (ap (λ (z : Known). z.out) n.event_made.is
      ∙ k.actor.nothing_handed_out) in
      let whole : length s.batch ≡ length (n.token ∷ after) =
      ap (λ (z : List (WaitRef × ReadIoView)). length z) n.first in
      let lengths : length s.batch ≡ length after + 1 = omega arith in
      let kept : (u : WaitRef) → IsIn u s.in_flight.items → TokenUnchanged u p q =
      λ u j. submission-keeps record_aim s.batch after t u p q a b d e k.tokens.staged_tokens n
      (λ st. absurd (let f = (stream-io-in c p s.in_flight.items u k.tokens.stream_ios j).in_flight.since
      in
      let y = st.until in omega arith)) in
      let was-staged = k.tokens.staged_ios n.token
      (subst (λ (z : List (WaitRef × ReadIoView)). IsIn n.token z) (sym n.first) (inl refl)) in
      record {
        issued = record {
          room = k.room;
          count_within = let f = k.count_within in omega arith;
          within_most = let f = k.within_most in omega arith;
          actor = stream-actor-kept c p q s.taken_in i out k.actor;
          records = record {
            free = k.records.free;
            ended_records = λ r j. taken-later c world p q r.io i
                (k.records.ended_records r j);
          };
          tokens = record {
            staged_tokens = held;
            staged_ios = λ x j. k.tokens.staged_ios x (rw n.first (inr j));
            stream_ios = stream-ios-kept c p q s.in_flight.items kept k.tokens.stream_ios;
            unreclaimed_ios = λ x. ⊎_elim
                (λ over. let y = i.defined x in let z = i.reclaimed x in inl (omega arith))
                (λ j. inr (subst
                (λ (z : WaitRef). IsIn x ((z ∷ []) ++ staged_references after
                ++ s.in_flight.items)) (sym n.reference)
                (subst (λ (z : List (WaitRef × ReadIoView)).
                IsIn x (staged_references z ++ s.in_flight.items)) n.first j)))
                (k.tokens.unreclaimed_ios x);
          };
        };
        stream_ios = record {
          in_flight = n.in_flight;
          has_aim = (n.token.1, was-staged.0, n.aim);
          is_new = subst (λ (z : WaitRef). IsNewIncarnation c z) (sym n.reference) was-staged.1;
        };
        apart = λ u j e'. (let f = (stream-io-in c p s.in_flight.items u k.tokens.stream_ios
            j).in_flight.since in
            let g : 0 < mark_count t kind.Submitted p.marks =
            subst (λ (z : WaitRef). 0 < mark_count z kind.Submitted p.marks) e' f in
            omega arith);
      }

  in-behind : (x t : WaitRef) (bs fs : List WaitRef) → IsIn x ((t ∷ []) ++ bs ++ fs)
      → IsIn x (bs ++ (fs ++ t ∷ []))
  in-behind x t bs fs i = ⊎_elim
      (λ e. in-right x bs (fs ++ t ∷ []) (in-right x fs (t ∷ []) (inl e)))
      (λ j. ⊎_elim (λ b. in-left x bs (fs ++ t ∷ []) b)
      (λ f. in-right x bs (fs ++ t ∷ []) (in-left x fs (t ∷ []) f)) (in-append x bs fs j)) i

  -- a token in flight is put behind the others
  more-in-flight : (world : WorldGhosts W) (p : Known) (s : Reads W) (t : WaitRef)
      → record_count s < c.total.value → HeldByCaller c world p s t
      → Issued c world p
      (record s { in_flight = buffer (s.in_flight.items ++ t ∷ []) s.in_flight.capacity })
  more-in-flight world p s t room l =
      let k = l.issued in
      let more = length-append s.in_flight.items (t ∷ []) in
      record {
        room = k.room;
        count_within = omega arith;
        within_most = let f = k.within_most in omega arith;
        actor = k.actor;
        records = k.records;
        tokens = record {
          staged_tokens = k.tokens.staged_tokens;
          staged_ios = k.tokens.staged_ios;
          stream_ios = stream-ios-push c p s.in_flight.items t k.tokens.stream_ios l.stream_ios
              (λ u j e. l.apart u j (sym e));
          unreclaimed_ios = λ x. ⊎_elim (λ over. inl over)
              (λ j. inr (in-behind x t (staged_references s.batch) s.in_flight.items j))
              (k.tokens.unreclaimed_ios x);
        };
      }

  -- one I/O of the batch was submitted, and its token stands behind those in flight
  pub issued-submitted : (world : WorldGhosts W) (p q : Known) (s : Reads W)
      (after : List (WaitRef × ReadIoView)) (t : WaitRef) (a b d e : ℕ)
      → IsNextSubmission record_aim s.batch after t p q a b d e → AreStagedTokens q after
      → Issued c world p s
      → Issued c world q (record s {
        batch = after;
        in_flight = buffer (s.in_flight.items ++ t ∷ []) s.in_flight.capacity;
      })
  issued-submitted world p q s after t a b d e n held k =
      let whole : length s.batch ≡ length (n.token ∷ after) =
      ap (λ (z : List (WaitRef × ReadIoView)). length z) n.first in
      let few = k.count_within in
      more-in-flight world q (record s { batch = after }) t (omega arith)
      (issued-lent world p q s after t a b d e n held k)

  -- a batch of one I/O
  pub only-one : (p q : Known) (s s' : Reads W) (x : WaitRef × ReadIoView)
      (after : List (WaitRef × ReadIoView)) (t : WaitRef) (a b d e : ℕ) → length s.batch ≤ 0
      → s' ≡ record s { batch = s.batch ++ x ∷ [] }
      → (n : IsNextSubmission record_aim s'.batch after t p q a b d e)
      → (n.token ≡ x) × (after ≡ [])
  only-one p q s s' x after t a b d e none is n =
      let batch : s'.batch ≡ x ∷ [] = ap (λ (z : Reads W). z.batch) is
      ∙ ap (λ (z : List (WaitRef × ReadIoView)). z ++ x ∷ []) (is-none s.batch none) in
      let heads : x ∷ [] ≡ n.token ∷ after = sym batch ∙ n.first in
      (cc, cc)

  -- it was submitted, and lies with the caller
  pub lent-at-once : (world : WorldGhosts W) (p q : Known) (s s' : Reads W)
      (x : WaitRef × ReadIoView) (after : List (WaitRef × ReadIoView)) (t : WaitRef) (a b d e : ℕ)
      → s' ≡ record s { batch = s.batch ++ x ∷ [] } → IsStaged p x.0 → IsStreamRecord c x.1
      → IsNewIncarnation c x.0 → ((u : WaitRef × ReadIoView) → IsIn u s.batch → u.0 ≢ x.0)
      → record_count s < c.total.value
      → IssuedExcept (x.0 ∷ []) c world p s
      → IsNextSubmission record_aim s'.batch after t p q a b d e → AreStagedTokens q after
      → HeldByCaller c world q (record s' { batch = after }) t
  lent-at-once world p q s s' x after t a b d e is new aimed fresh apart room k n held =
      issued-lent world p q s' after t a b d e n held
      (issued-put c world p s s' x is new aimed fresh apart room k)

  -- it was settled, and its record lies with the caller
  pub counted-at-once : (s s' s'' : Reads W) (x : WaitRef × ReadIoView)
      (after : List (WaitRef × ReadIoView)) → length s.batch ≤ 0
      → s' ≡ record s { batch = s.batch ++ x ∷ [] } → after ≡ [] → s''.free ≡ s'.free
      → s''.ended ≡ s'.ended → s''.in_flight ≡ s'.in_flight → s''.batch ≡ after
      → record_count s'' ≡ record_count s
  counted-at-once s s' s'' x after none is gone free ended in_flight batch =
      let f : length s''.free.items ≡ length s.free.items =
      ap (λ (z : Buffer ReadIoView). length z.items) (free ∙ ap (λ (z : Reads W). z.free) is) in
      let e : length s''.ended.items ≡ length s.ended.items =
      ap (λ (z : Buffer EndedRead). length z.items) (ended ∙ ap (λ (z : Reads W). z.ended) is) in
      let i : length s''.in_flight.items ≡ length s.in_flight.items =
      ap (λ (z : Buffer WaitRef). length z.items)
      (in_flight ∙ ap (λ (z : Reads W). z.in_flight) is) in
      let b : length s''.batch ≡ 0 =
      ap (λ (z : List (WaitRef × ReadIoView)). length z) (batch ∙ gone) in
      omega arith

  -- and it is to read what its record was aimed at
  pub for-at-once : (p q : Known) (s s' : Reads W) (x : WaitRef × ReadIoView)
      (after : List (WaitRef × ReadIoView)) (t : WaitRef) (a b d e : ℕ) → length s.batch ≤ 0
      → s' ≡ record s { batch = s.batch ++ x ∷ [] } → IsStreamRecord c x.1
      → IsNextSubmission record_aim s'.batch after t p q a b d e
      → ReadsBlocks c x.1.first x.1.count q t
  for-at-once p q s s' x after t a b d e none is aimed n =
      let token = (only-one p q s s' x after t a b d e none is n).0 in (
        n.token.1,
        subst (λ (z : WaitRef × ReadIoView). IsStreamRecord c z.1) (sym token) aimed,
        n.aim,
        ap (λ (z : WaitRef × ReadIoView). z.1.first) token,
        ap (λ (z : WaitRef × ReadIoView). z.1.count) token,
      )

  -- where nothing is staged, and the caller's tokens are in flight, all is submitted
  pub all-submitted : (caller_refs : List WaitRef) (world : WorldGhosts W) (p : Known)
      (s : Reads W) → IssuedExcept caller_refs c world p s → s.batch ≡ []
      → ((t : WaitRef) → IsIn t caller_refs → IsStreamIo c p t) → AllSubmitted p
  all-submitted caller_refs world p s k none callers = λ t defined.
      (let in-flight : IsStreamIo c p t → 0 < mark_count t kind.Submitted p.marks
      + mark_count t kind.Reclaimed p.marks =
      λ io. (let since = io.in_flight.since in omega arith) in
      ⊎_elim (λ over. omega arith)
      (λ j. in-flight (⊎_elim
      (λ i. ⊎_elim (λ of. callers t of)
      (λ b. absurd (subst (λ (z : List (WaitRef × ReadIoView)). IsIn t (staged_references z)) none
      b))
      (in-append t caller_refs (staged_references s.batch) i))
      (λ f. stream-io-in c p s.in_flight.items t k.tokens.stream_ios f)
      (in-append t (caller_refs ++ staged_references s.batch) s.in_flight.items j)))
      (k.tokens.unreclaimed_ios t))
